-- What generation asks of the stored records: each table is in order, and its lists are within the limits. Assumes nothing.
use Rattle.std.specs.Prelude.{ℕ, ◌+◌, ◌≤◌, ◌<◌, ◌^◌, ◌≡◌, List, [], ◌∷◌, ◌++◌, length, take, drop, get_or}
use Rattle.std.proofs.Common.{arith, add-one, ◌∙◌, drop_of_length-le, drop-cons, get_or-take, length-take-le}
use Rattle.store.specs.Tables.{within_get}
use Rattle.store.specs.View.{model_of}
use Rattle.store.specs.Rows.{rows_in, words_in, store_of}
use Rattle.store.specs.Order.{Within, of_below, of_domain, of_port, of_switch, of_isolation, of_retention, of_shifter, of_table, of_row, Sized, Shaped, Bounded}
use Rattle.store.specs.declared.state.State.{State}
use Rattle.made.specs.Made.{reach_of}
use Rattle.readfacts.specs.Few.{Few}

-- the first n of an array of 32 count, and their strings lie in the files or in the area, each whole; `bound` is the size of both
pub record Holds {A : Type 0} (of : A → ℕ) (bound n : ℕ) (all : List A) : Type 0 where
  pub sized : Sized 32 n all
  pub within : Within of bound (take n all)

-- the state s is in order, its rows and words being in `nums`, its strings in the files and the area
pub record Orders (files area nums : List ℕ) (s : State) : Type 0 where
  pub small : length (files ++ area) < 2 ^ 32
  pub rows : s.fill.rows ≤ 1024
  pub words : s.fill.words ≤ 4032
  pub shaped : Shaped (store_of nums s) s
  pub bounded : Bounded (reach_of (length files)) (length (files ++ area)) (store_of nums s) s
  pub few : Few 1024 (model_of (files ++ area) (store_of nums s) s [])

-- ---- a loop over a table: record i, and the end
module _ {A : Type 0} (n : ℕ) (all : List A) (h : Sized 32 n all) where
  pub sized_long : n ≤ length all
  sized_long = omega (arith, h.long, h.count)

  pub sized_next : (i : ℕ) (d : A) → i < n → drop i (take n all) ≡ get_or all i d ∷ drop (i + 1) (take n all)
  sized_next i d g =
      let l : i < length (take n all) = rw (length-take-le n all sized_long) g in
      drop-cons (take n all) i d l ∙ rw (get_or-take n all i d g, add-one i)

  pub sized_end : (i : ℕ) → n ≤ i → drop i (take n all) ≡ []
  sized_end i g = drop_of_length-le (take n all) {i = i} (rw (length-take-le n all sized_long) g)

module _ {A : Type 0} (of : A → ℕ) (bound n : ℕ) (all : List A) (h : Holds of bound n all) where
  pub holds_few : n ≤ 32
  holds_few = h.sized.count

  pub holds_long : n ≤ length all
  holds_long = sized_long n all h.sized

  pub holds_at : (i : ℕ) (d : A) → i < n → of (get_or all i d) ≤ bound
  holds_at i d g = within_get of all n i d h.within g holds_long

  pub holds_next : (i : ℕ) (d : A) → i < n → drop i (take n all) ≡ get_or all i d ∷ drop (i + 1) (take n all)
  holds_next i d g = sized_next n all h.sized i d g

  pub holds_end : (i : ℕ) → n ≤ i → drop i (take n all) ≡ []
  holds_end i g = sized_end n all h.sized i g

-- ---- table by table
module _ (files area nums : List ℕ) (s : State) (o : Orders files area nums s) where
  pub domains_hold : Holds (of_domain (reach_of (length files))) (length (files ++ area)) s.domains.n s.domains.all
  domains_hold = record { sized = o.shaped.domains; within = o.bounded.domains }

  pub nets_hold : Holds (of_below (reach_of (length files))) (length (files ++ area)) s.nets.n s.nets.all
  nets_hold = record { sized = o.shaped.nets; within = o.bounded.nets }

  pub ports_hold : Holds (of_port (reach_of (length files))) (length (files ++ area)) s.ports.n s.ports.all
  ports_hold = record { sized = o.shaped.ports; within = o.bounded.ports }

  pub switches_hold : Holds (of_switch (reach_of (length files))) (length (files ++ area)) s.switches.n s.switches.all
  switches_hold = record { sized = o.shaped.switches; within = o.bounded.switches }

  pub isolations_hold : Holds (of_isolation (reach_of (length files))) (length (files ++ area)) s.isolations.n s.isolations.all
  isolations_hold = record { sized = o.shaped.isolations; within = o.bounded.isolations }

  pub retentions_hold : Holds (of_retention (reach_of (length files))) (length (files ++ area)) s.retentions.n s.retentions.all
  retentions_hold = record { sized = o.shaped.retentions; within = o.bounded.retentions }

  pub shifters_hold : Holds (of_shifter (reach_of (length files))) (length (files ++ area)) s.shifters.n s.shifters.all
  shifters_hold = record { sized = o.shaped.shifters; within = o.bounded.shifters }

  pub tables_hold : Holds (of_table (reach_of (length files))) (length (files ++ area)) s.tables.n s.tables.all
  tables_hold = record { sized = o.shaped.tables; within = o.bounded.tables }

  pub rows_within : Within (of_row (reach_of (length files))) (length (files ++ area)) (rows_in nums s.fill.rows)
  rows_within = o.bounded.rows

  pub words_within : Within (reach_of (length files)) (length (files ++ area)) (words_in nums s.fill.words)
  words_within = o.bounded.words
