-- The walk from one module, turn by turn: what the whole comes to is what was listed so far and what the instances left come to.
-- Assumes nothing.
use Prim.Native.Nat.{ℕ, zero, suc, ◌+◌, ◌-◌, ◌≤◌, ◌<◌, ◌^◌}
use mathlib.Core.Path.{◌≡◌, refl, sym, ap, ap₂, ◌∙◌}
use mathlib.Core.Bool.{Bool, true, false, cond}
use Rattle.std.specs.Prelude.{Result, Ok, Err, IsErrAnd}
use mathlib.Core.List.{List, [], ◌∷◌, ◌++◌, map, flat_map, append_assoc, append-nil}
use native.Mathlib.Omega.{arith}
use native.Mathlib.Nat.{add-zero}
use lib.Dec.{eqb}
use lib.ListN.{length, take, drop, length-append, length-take, drop_of_length-le}
use lib.Seq.{take-take, length-take-le, take-append-le}
use borrow.Author.Rules.{rules}
use borrow.Author.Tests.{eq-eqb, ne_eqb}
use Rattle.text.specs.Ascii.{Bytes, byte}
use Rattle.out.specs.Emit.{◌▸◌, emit}
use Rattle.jobindex.specs.Index.{num}
use Rattle.jobindex.specs.Rows.{rows_length, rows_here}
use Rattle.names.specs.Name.{name_of}
use Rattle.names.specs.declared.name.Name.{Name}
use Rattle.design.specs.Lists.{is_in, add_all}
use Rattle.design.specs.Laws.{add_all_append}
use Rattle.design.specs.Paths.{child_path, dotted}
use Rattle.walk.specs.Walk.{sum_over, retained_paths}
use Rattle.walk.proofs.Retained.{length_dotted}
use Rattle.paths.specs.Pieces.{stem, stem_child}
use Rattle.listing.specs.declared.TooMany.{TooMany}
use Rattle.listing.specs.declared.Walk.{Walk}
use Rattle.listing.specs.Listing.{paths_of, Within, Ready, Listed, Answer, refused}
use Rattle.listing.specs.Turns.{Turn, turn_end, turn_stop, turn_next, within_less}
use Rattle.listing.specs.Written.{front_kept, place_is_lem, front_on}
use Rattle.modtable.specs.Table.{ways_at, way_place, way_name, names_of, Down, down_in, downs_of}
use Rattle.corrupt.specs.OverTable.{own_of, lost_below, entered_below, RowSound}
use Rattle.corrupt.specs.Corrupt.{OwnGiven, Given, dot_behind, Stemmed, Walked}

-- ---- the definitions, where the path is no retained one

module _ (job : Bytes) (table : List ℕ) (R : List Bytes) (k : ℕ) (path : Bytes) where
  retained_none : (left : ℕ) → is_in path R ≡ true → (entered_below job table R left k path ≡ 0) × (lost_below job table R left k path ≡ [])
  unfolding entered_below lost_below
  retained_none zero h = (rw h, rw h)
  retained_none (suc left) h = (rw h, rw h)

  module _ (h : is_in path R ≡ false) where
    last_own : (entered_below job table R 0 k path ≡ 1) × (lost_below job table R 0 k path ≡ own_of job table k path)
    unfolding entered_below lost_below
    last_own = (rw h, rw h)

    -- what an instance adds, of the modules entered and of the paths
    abbrev visits : ℕ → Down → ℕ
    visits left w = entered_below job table R left w.row (child_path path w.name)

    abbrev lists : ℕ → Down → List Bytes
    lists left w = lost_below job table R left w.row (child_path path w.name)

    more_own : (left : ℕ) → (entered_below job table R (suc left) k path ≡ 1 + sum_over (visits left) (downs_of job table k)) × (lost_below job table R (suc left) k path ≡ own_of job table k path ++ flat_map (lists left) (downs_of job table k))
    unfolding entered_below lost_below
    more_own left = (rw h, rw h)

    -- at least one module is entered, and its own paths come first
    own_first : (left : ℕ) → (1 ≤ entered_below job table R left k path) × ((rest : List Bytes) × (lost_below job table R left k path ≡ own_of job table k path ++ rest))
    own_first zero = (omega (arith, last_own.0), ([], last_own.1 ∙ sym (append-nil (own_of job table k path))))
    own_first (suc left) = (omega (arith, (more_own left).0), (flat_map (lists left) (downs_of job table k), (more_own left).1))

-- ---- the stem of a path

stem_by : (p : Bytes) (n : ℕ) → length p ≡ n → stem p ≡ p ++ cond (eqb n 0) [] (byte "." ∷ [])
stem_by [] n h = rw (eq-eqb n 0 (sym h))
stem_by (x ∷ p) n h = rw (ne_eqb n 0 (λ z. omega (arith, h, z)))

map_same : (f g : Bytes → Bytes) (l : List Bytes) → ((n : Bytes) → f n ≡ g n) → map f l ≡ map g l
map_same f g [] h = refl
map_same f g (x ∷ l) h = ap₂ ◌∷◌ (h x) (map_same f g l h)

module _ (mem : Bytes) (e : Name) (elen t : ℕ) (tail tail' : Bytes) (u : ℕ) (st : Stemmed elen t tail tail' u) (el : elen ≡ length (name_of mem e)) (l : t ≤ length tail) where
  abbrev at_path : Bytes
  at_path = dotted (name_of mem e) ++ take t tail

  path_long : length at_path ≡ elen + t
  path_long = length-append (dotted (name_of mem e)) (take t tail) ∙ omega (arith, length_dotted (name_of mem e), el, length-take-le t tail l)

  stem_is : stem at_path ≡ dotted (name_of mem e) ++ take u tail'
  stem_is = stem_by at_path (elen + t) path_long ∙ append_assoc (dotted (name_of mem e)) (take t tail) (dot_behind elen t) ∙ ap (λ (x : Bytes). dotted (name_of mem e) ++ x) (sym st.front)

  child_is : (n : Bytes) → child_path at_path n ≡ dotted (name_of mem e) ++ (take u tail' ++ n)
  child_is n = stem_child at_path n ∙ ap (λ (x : Bytes). x ++ n) stem_is ∙ append_assoc (dotted (name_of mem e)) (take u tail') n

  own_is : (l : List Bytes) → map (λ n. dotted (name_of mem e) ++ (take u tail' ++ n)) l ≡ map (child_path at_path) l
  own_is l = map_same (λ n. dotted (name_of mem e) ++ (take u tail' ++ n)) (child_path at_path) l (λ n. sym (child_is n))

  dot_short : (b : Bool) → length (cond b [] (byte "." ∷ [])) ≤ 1
  dot_short true = omega arith
  dot_short false = omega arith

  stem_low : (u ≤ t + 1) × (t ≤ u)
  stem_low = (omega (arith, st.place, dot_short (eqb (elen + t) 0)), omega (arith, st.place))

  stem_kept : take t tail' ≡ take t tail
  stem_kept =
      sym (take-take t u tail' stem_low.1) ∙ ap (take t) st.front ∙ take-append-le t (take t tail) (dot_behind elen t) (omega (arith, length-take-le t tail l))
      ∙ take-take t t tail (omega arith)

-- ---- answers, one after the other

-- one that goes on from there
answer_on : (prefix : ℕ) (v : ℕ) (ps : List Bytes) (w : Walk) (text : Bytes) (ends : List ℕ) → Listed prefix v ps w text ends
    → (x : ℕ) (qs : List Bytes) (r' : Result Walk TooMany) (text' : Bytes) (ends' : List ℕ) → Answer prefix (w.entered + x) (add_all (paths_of text ends w.count) qs) r' text' ends' → Answer prefix (v + x) (add_all ps qs) r' text' ends'
answer_on prefix v ps w text ends a x qs r' text' ends' b = rw (a.entered_is, a.paths_are) at b

-- ---- a module at a retained path

module _ (job : Bytes) (table : List ℕ) (k left : ℕ) (mem : Bytes) (entries : List Bytes) (e : Name) (tail : Bytes) (t prefix : ℕ) (s : Walk) (text : Bytes) (ends : List ℕ) where
  pub walk_retained : Ready prefix s text ends → (p : Bytes) → p ≡ take t (drop 0 tail) → (b : Bool) → b ≡ is_in (dotted (name_of mem e) ++ p) (retained_paths [] entries) → b ≡ true → Walked job table k left mem entries e tail tail t prefix s.entered (paths_of text ends s.count) (Ok s) text ends
  unfolding add_all
  walk_retained rd p ep b eb h =
      let i : is_in (dotted (name_of mem e) ++ take t tail) (retained_paths [] entries) ≡ true = rw (← ep, ← eb) h in
      let z = retained_none job table (retained_paths [] entries) k (dotted (name_of mem e) ++ take t tail) left i in
      record {
        kept = refl;
        answer = rw (z.0, z.1, add-zero s.entered) (record { ready = rd; entered_is = refl; paths_are = refl });
      }

-- ---- the instances

-- what an instance adds, by the path of what is below it
abbrev pub visits_by : Bytes → List ℕ → List Bytes → ℕ → (Bytes → Bytes) → Down → ℕ
visits_by job table R left child w = entered_below job table R left w.row (child w.name)

abbrev pub lists_by : Bytes → List ℕ → List Bytes → ℕ → (Bytes → Bytes) → Down → List Bytes
lists_by job table R left child w = lost_below job table R left w.row (child w.name)

module _ (job : Bytes) (table : List ℕ) (R : List Bytes) (left : ℕ) (f g : Bytes → Bytes) (same-paths : (n : Bytes) → f n ≡ g n) where
  visits_same : (l : List Down) → sum_over (visits_by job table R left f) l ≡ sum_over (visits_by job table R left g) l
  unfolding sum_over
  visits_same [] = refl
  visits_same (w ∷ l) = let h : visits_by job table R left f w ≡ visits_by job table R left g w = rw (same-paths w.name) in ap₂ ◌+◌ h (visits_same l)

  lists_same : (l : List Down) → flat_map (lists_by job table R left f) l ≡ flat_map (lists_by job table R left g) l
  unfolding flat_map
  lists_same [] = refl
  lists_same (w ∷ l) = let h : lists_by job table R left f w ≡ lists_by job table R left g w = rw (same-paths w.name) in ap₂ ◌++◌ h (lists_same l)

-- the instances from j on are left; what is below row k's path begins with the first u bytes of the tail
pub record Round (job : Bytes) (table : List ℕ) (k left : ℕ) (mem : Bytes) (n : ℕ) (entries : List Bytes) (e : Name) (elen h t u prefix : ℕ) (tail₀ : Bytes) (total : ℕ) (all : List Bytes) (tail text : Bytes) (ends : List ℕ) (w : Walk) (j : ℕ) : Type 0 where
  pub turn : Turn prefix total all w text ends
      (sum_over (visits_by job table (retained_paths [] entries) (left - 1) (λ x. dotted (name_of mem e) ++ (take u tail₀ ++ x))) (drop j (downs_of job table k)))
      (flat_map (lists_by job table (retained_paths [] entries) (left - 1) (λ x. dotted (name_of mem e) ++ (take u tail₀ ++ x))) (drop j (downs_of job table k)))
  pub front : take u tail ≡ take u tail₀
  pub long : 2081 ≤ length tail
  pub given : Given job table k left mem n e elen h t
  pub low : u ≤ t + 1
  pub more : 0 < left

module _ (job : Bytes) (table : List ℕ) (k left : ℕ) (mem : Bytes) (n : ℕ) (entries : List Bytes) (e : Name) (elen h t u prefix : ℕ) (tail₀ : Bytes) where
  abbrev pub R : List Bytes
  R = retained_paths [] entries

  abbrev pub child : Bytes → Bytes
  child x = dotted (name_of mem e) ++ (take u tail₀ ++ x)

  abbrev pub row_visits : ℕ
  row_visits = sum_over (visits_by job table R (left - 1) child) (downs_of job table k)

  abbrev pub row_lists : List Bytes
  row_lists = flat_map (lists_by job table R (left - 1) child) (downs_of job table k)

  pub round_start : (tail : Bytes) → Given job table k left mem n e elen h t → 2081 ≤ length tail → Stemmed elen t tail tail₀ u → (left ≡ 0 → ⊥) → (v : ℕ) (ps : List Bytes) (w : Walk) (text : Bytes) (ends : List ℕ) → Listed prefix v ps w text ends
      → Round job table k left mem n entries e elen h t u prefix tail₀ (w.entered + row_visits) (add_all (paths_of text ends w.count) row_lists) tail₀ text ends w 0
  round_start tail g l st z v ps w text ends a =
      let tl : t ≤ length tail = omega (arith, g.room) in
      record {
        turn = record { ready = a.ready; entered_left = refl; paths_left = refl };
        front = refl;
        long = omega (arith, l, st.kept);
        given = g;
        low = (stem_low mem e elen t tail tail₀ u st g.elen_is tl).0;
        more = omega arith;
      }

  module _ (total : ℕ) (all : List Bytes) (tail text : Bytes) (ends : List ℕ) (w : Walk) (j : ℕ) (inv : Round job table k left mem n entries e elen h t u prefix tail₀ total all tail text ends w j) where
    sound : RowSound job table inv.given.sound.count k
    sound = inv.given.sound.rows k inv.given.sound.row

    pub round_row : k ≤ 128
    round_row = omega (arith, inv.given.sound.row, inv.given.sound.few)

    module _ (z : ℕ) (ez : z ≡ num table (ways_at k)) where
      pub round_end : z ≤ j → Answer prefix total all (Ok w) text ends
      unfolding sum_over flat_map
      round_end l =
          let y : drop j (downs_of job table k) ≡ [] = drop_of_length-le (downs_of job table k) {i = j} (omega (arith, l, ez, rows_length (down_in job table k) (num table (ways_at k)))) in
          turn_end prefix total all w text ends (sum_over (visits_by job table R (left - 1) child) (drop j (downs_of job table k))) (flat_map (lists_by job table R (left - 1) child) (drop j (downs_of job table k))) inv.turn (rw y refl) (rw y refl)

      module _ (l : j < z) where
        inside : j < num table (ways_at k)
        inside = omega (arith, l, ez)

        pub round_low : j ≤ 64
        round_low = omega (arith, inside, sound.ways_few)

        pub round_fits : j + 1 < 2 ^ 64
        round_fits = omega (arith, inside, sound.ways_few)

        abbrev this : Down
        this = down_in job table k j

        left_is : drop j (downs_of job table k) ≡ this ∷ drop (j + 1) (downs_of job table k)
        left_is = rows_here (down_in job table k) (num table (ways_at k)) j inside

        visits_left : sum_over (visits_by job table R (left - 1) child) (drop j (downs_of job table k)) ≡ visits_by job table R (left - 1) child this + sum_over (visits_by job table R (left - 1) child) (drop (j + 1) (downs_of job table k))
        unfolding sum_over
        visits_left = rw left_is

        lists_left : flat_map (lists_by job table R (left - 1) child) (drop j (downs_of job table k)) ≡ lists_by job table R (left - 1) child this ++ flat_map (lists_by job table R (left - 1) child) (drop (j + 1) (downs_of job table k))
        unfolding flat_map
        lists_left = rw left_is

        module _ (p : Bytes) (ep : p ≡ way_name job table k j) (tail₂ : Bytes) (v : ℕ) (ev : tail₂ ▸ v ≡ emit (tail ▸ u) p) where
          short : length p ≤ 64
          short = omega (arith, ap length ep, sound.short j inside)

          fits : u + length p ≤ length tail
          fits = omega (arith, short, inv.low, inv.more, inv.given.room, inv.long)

          place : v ≡ u + length p
          place = place_is_lem tail tail₂ p u v fits ev

          pub round_long : length tail₂ ≡ length tail → 2081 ≤ length tail₂
          round_long hl = omega (arith, hl, inv.long)

          path_is : dotted (name_of mem e) ++ take v tail₂ ≡ child (way_name job table k j)
          path_is = ap (λ (x : Bytes). dotted (name_of mem e) ++ x) (ap (λ y. take y tail₂) place ∙ front_on tail tail₂ p u v fits ev ∙ ap₂ ◌++◌ inv.front ep)

          module _ (row : ℕ) (er : row ≡ num table (way_place k j + 2)) where
            pub round_given : Given job table row (left - 1) mem n e elen h v
            round_given =
                let g = inv.given in
                let q = g.sound in
                record {
                  sound = record { count = q.count; few = q.few; row = omega (arith, er, sound.within j inside); rows = q.rows };
                  entries_few = g.entries_few;
                  elen_is = g.elen_is;
                  number_is = g.number_is;
                  elen_small = g.elen_small;
                  job_small = g.job_small;
                  room = omega (arith, g.room, place, short, inv.low, inv.more);
                }

            module _ (tail₃ : Bytes) (text' : Bytes) (ends' : List ℕ) where
              abbrev Goes : Result Walk TooMany → Type 0
              Goes r = Walked job table row (left - 1) mem entries e tail₂ tail₃ v prefix w.entered (paths_of text ends w.count) r text' ends'

              answer_is : (r : Result Walk TooMany) → Goes r → Answer prefix (w.entered + visits_by job table R (left - 1) child this) (add_all (paths_of text ends w.count) (lists_by job table R (left - 1) child this)) r text' ends'
              answer_is r a = rw (er, path_is) at a.answer

              pub round_stop : (x : TooMany) → Goes (Err x) → (r : Result Walk TooMany) → IsErrAnd r (λ y. y ≡ x) → Answer prefix total all r text' ends'
              round_stop x a r q =
                  turn_stop prefix total all w text ends (sum_over (visits_by job table R (left - 1) child) (drop j (downs_of job table k))) (flat_map (lists_by job table R (left - 1) child) (drop j (downs_of job table k))) inv.turn
                  (visits_by job table R (left - 1) child this) (sum_over (visits_by job table R (left - 1) child) (drop (j + 1) (downs_of job table k))) (lists_by job table R (left - 1) child this) (flat_map (lists_by job table R (left - 1) child) (drop (j + 1) (downs_of job table k)))
                  visits_left lists_left (answer_is (Err x) a) x r text' ends' q

              pub round_front : (r : Result Walk TooMany) → Goes r → take u tail₃ ≡ take u tail₀
              round_front r a =
                  let lo : u ≤ v = omega (arith, place) in
                  sym (take-take u v tail₃ lo) ∙ ap (take u) a.kept ∙ take-take u v tail₂ lo ∙ front_kept tail tail₂ p u v fits ev ∙ inv.front

              pub round_on : (w' : Walk) → Goes (Ok w') → length tail₃ ≡ length tail → Round job table k left mem n entries e elen h t u prefix tail₀ total all tail₃ text' ends' w' (j + 1)
              round_on w' a hl =
                  record {
                    turn = turn_next prefix total all w text ends (sum_over (visits_by job table R (left - 1) child) (drop j (downs_of job table k))) (flat_map (lists_by job table R (left - 1) child) (drop j (downs_of job table k))) inv.turn
                        (visits_by job table R (left - 1) child this) (sum_over (visits_by job table R (left - 1) child) (drop (j + 1) (downs_of job table k))) (lists_by job table R (left - 1) child this) (flat_map (lists_by job table R (left - 1) child) (drop (j + 1) (downs_of job table k)))
                        visits_left lists_left w' text' ends' (answer_is (Ok w') a);
                    front = round_front (Ok w') a;
                    long = omega (arith, hl, inv.long);
                    given = inv.given;
                    low = inv.low;
                    more = inv.more;
                  }

-- ---- the whole

module _ (job : Bytes) (table : List ℕ) (k left : ℕ) (mem : Bytes) (n : ℕ) (entries : List Bytes) (e : Name) (elen h t : ℕ) (tail : Bytes) (g : Given job table k left mem n e elen h t) (l : 2081 ≤ length tail) where
  pub own_given : (tail₁ : Bytes) (u : ℕ) → Stemmed elen t tail tail₁ u → (q : Bytes) → q ≡ take u (drop 0 tail₁) → OwnGiven job table k mem e elen h q
  own_given tail₁ u st q eq =
      let low = stem_low mem e elen t tail tail₁ u st g.elen_is (omega (arith, g.room)) in
      let q = g.sound in record { row = omega (arith, q.row, q.few); few = (q.rows k q.row).names_few; elen_is = g.elen_is; number_is = g.number_is; fits = omega (arith, g.elen_small, g.job_small, g.room, low.0, ap length eq, length-take u tail₁) }

  module _ (p : Bytes) (ep : p ≡ take t (drop 0 tail)) (b : Bool) (eb : b ≡ is_in (dotted (name_of mem e) ++ p) (retained_paths [] entries)) (hb : b ≡ false) (tail₁ : Bytes) (u : ℕ) (st : Stemmed elen t tail tail₁ u) (q : Bytes) (eq : q ≡ take u (drop 0 tail₁))
      (prefix v : ℕ) (ps : List Bytes) (text₁ : Bytes) (ends₁ : List ℕ) where
    abbrev Owns : Result Walk TooMany → Type 0
    Owns r = Answer prefix (v + 1) (add_all ps (map (λ x. dotted (name_of mem e) ++ (q ++ x)) (names_of job table k))) r text₁ ends₁

    abbrev path : Bytes
    path = dotted (name_of mem e) ++ take t tail

    free : is_in path (retained_paths [] entries) ≡ false
    free = rw (← ep, ← eb) hb

    tail_in : t ≤ length tail
    tail_in = omega (arith, l, g.room)

    owned : (r : Result Walk TooMany) → Owns r → Answer prefix (v + 1) (add_all ps (own_of job table k path)) r text₁ ends₁
    owned r a = rw (eq, own_is mem e elen t tail tail₁ u st g.elen_is tail_in (names_of job table k)) at a

    kept : take t tail₁ ≡ take t tail
    kept = stem_kept mem e elen t tail tail₁ u st g.elen_is tail_in

    pub walk_full : (x : TooMany) → Owns (Err x) → (r : Result Walk TooMany) → IsErrAnd r (λ y. y ≡ x) → Walked job table k left mem entries e tail tail₁ t prefix v ps r text₁ ends₁
    walk_full x a r h =
        let f = own_first job table (retained_paths [] entries) k path free left in
        let out : Within prefix (v + entered_below job table (retained_paths [] entries) left k path) (add_all (add_all ps (own_of job table k path)) f.1.0) → ⊥ =
        λ w. owned (Err x) a (within_less prefix (v + 1) (v + entered_below job table (retained_paths [] entries) left k path) (add_all ps (own_of job table k path)) f.1.0 (omega (arith, f.0)) w) in
        record {
          kept = kept;
          answer = rw (f.1.1, add_all_append ps (own_of job table k path) f.1.0) (refused prefix (v + entered_below job table (retained_paths [] entries) left k path) (add_all (add_all ps (own_of job table k path)) f.1.0) x r text₁ ends₁ h out);
        }

    pub walk_last : (w₀ : Walk) → Owns (Ok w₀) → left ≡ 0 → Walked job table k left mem entries e tail tail₁ t prefix v ps (Ok w₀) text₁ ends₁
    walk_last w₀ a z =
        let f = last_own job table (retained_paths [] entries) k path free in
        record { kept = kept; answer = rw (z, f.0, f.1) (owned (Ok w₀) a) }

    pub walk_done : (w₀ : Walk) → Owns (Ok w₀) → (left ≡ 0 → ⊥) → (r : Result Walk TooMany) (text : Bytes) (ends : List ℕ) (tail' : Bytes)
        → Answer prefix (w₀.entered + row_visits job table k left mem n entries e elen h t u prefix tail₁) (add_all (paths_of text₁ ends₁ w₀.count) (row_lists job table k left mem n entries e elen h t u prefix tail₁)) r text ends
        → take u tail' ≡ take u tail₁ → Walked job table k left mem entries e tail tail' t prefix v ps r text ends
    walk_done w₀ a z r text ends tail' b' f' =
        let y : left ≡ suc (left - 1) = omega arith in
        let f = more_own job table (retained_paths [] entries) k path free (left - 1) in
        let low = stem_low mem e elen t tail tail₁ u st g.elen_is tail_in in
        let c = child_is mem e elen t tail tail₁ u st g.elen_is tail_in in
        let vs = visits_same job table (retained_paths [] entries) (left - 1) (λ x. dotted (name_of mem e) ++ (take u tail₁ ++ x)) (child_path path) (λ x. sym (c x)) (downs_of job table k) in
        let ls = lists_same job table (retained_paths [] entries) (left - 1) (λ x. dotted (name_of mem e) ++ (take u tail₁ ++ x)) (child_path path) (λ x. sym (c x)) (downs_of job table k) in
        let j = answer_on prefix (v + 1) (add_all ps (own_of job table k path)) w₀ text₁ ends₁ (owned (Ok w₀) a) (row_visits job table k left mem n entries e elen h t u prefix tail₁) (row_lists job table k left mem n entries e elen h t u prefix tail₁) r text ends b' in
        let ne : v + 1 + row_visits job table k left mem n entries e elen h t u prefix tail₁ ≡ v + entered_below job table (retained_paths [] entries) left k path = sym (ap (λ x. v + entered_below job table (retained_paths [] entries) x k path) y ∙ ap (λ x. v + x) f.0 ∙ omega (arith, vs)) in
        let le : add_all (add_all ps (own_of job table k path)) (row_lists job table k left mem n entries e elen h t u prefix tail₁) ≡ add_all ps (lost_below job table (retained_paths [] entries) left k path) =
        sym (ap (λ x. add_all ps (lost_below job table (retained_paths [] entries) x k path)) y ∙ ap (add_all ps) (f.1 ∙ ap (λ (x : List Bytes). own_of job table k path ++ x) (sym ls)) ∙ add_all_append ps (own_of job table k path) (row_lists job table k left mem n entries e elen h t u prefix tail₁)) in
        record {
          kept = sym (take-take t u tail' low.1) ∙ ap (take t) f' ∙ take-take t u tail₁ low.1 ∙ kept;
          answer = rw (ne, le) at j;
        }

pub stem_room : (job : Bytes) (table : List ℕ) (k left : ℕ) (mem : Bytes) (n : ℕ) (e : Name) (elen h t : ℕ) (tail : Bytes) → Given job table k left mem n e elen h t → 2081 ≤ length tail → (elen < 2 ^ 36) × (t < length tail)
stem_room job table k left mem n e elen h t tail g l = (g.elen_small, omega (arith, g.room))

pub module_row_lem : (job : Bytes) (table : List ℕ) (k left : ℕ) (mem : Bytes) (n : ℕ) (e : Name) (elen h t : ℕ) → Given job table k left mem n e elen h t → k ≤ 128
module_row_lem job table k left mem n e elen h t g = omega (arith, g.sound.row, g.sound.few)

pub ruleset retaineds = (rules, walk_retained)

pub ruleset rooms = (rules, stem_room, module_row_lem)
