-- A path looked for among the rows of the list, and put behind them. Assumes nothing.
use Prim.Native.Nat.{ℕ, suc, ◌+◌, ◌-◌, ◌%◌, ◌<◌, ◌≤◌, ◌^◌}
use mathlib.Core.Path.{◌≡◌, refl, sym, ap, ◌∙◌}
use mathlib.Core.Bool.{Bool, true, false, ◌||◌}
use mathlib.Core.List.{List, [], ◌∷◌, ◌++◌, append_assoc}
use Rattle.std.specs.Prelude.{Result, Ok, Err}
use native.Mathlib.Omega.{arith}
use native.Mathlib.Numerals.{add-one}
use lib.ListN.{length, take, drop, get_or, set, length-append, length-set, drop_of_length-le}
use lib.Seq.{get_or-take, length-take-le, take-suc-set, take-set-le}
use borrow.Author.Rules.{rules}
use Rattle.text.specs.Ascii.{Bytes}
use Rattle.text.specs.Compare.{same}
use Rattle.text.specs.Lists.{here}
use Rattle.text.specs.Scan.{any}
use Rattle.out.specs.Emit.{◌▸◌, emit}
use Rattle.names.specs.Name.{name_of}
use Rattle.names.specs.declared.name.Name.{Name}
use Rattle.design.specs.Lists.{is_in, add_new}
use Rattle.design.specs.Paths.{dotted}
use Rattle.jobindex.specs.Index.{section}
use Rattle.paths.specs.Pieces.{Sized}
use Rattle.pathnumber.specs.Number.{number, number_on}
use Rattle.listing.specs.declared.TooMany.{TooMany}
use Rattle.listing.specs.declared.Walk.{Walk}
use Rattle.listing.specs.Flags.{flag_low, flagged_on}
use Rattle.listing.specs.Written.{front_kept, piece_there}
use Rattle.listing.specs.Listing.{cut, paths_of, flag_place, Flagged, cost, cost_on, Ready, NewGiven, Answer, ascends_on, cut_same, cut_on, cut_length}
use Rattle.walk.proofs.Retained.{length_dotted}

-- ---- among the rows

-- t is the answer: the path is one of the rows left, or not
pub record Left (path text : Bytes) (ends : List ℕ) (count : ℕ) (t : Bool) (k at : ℕ) : Type 0 where
  pub keeps : is_in path (cut text at (drop k (take count ends))) ≡ t
  pub few : count ≤ length ends

module _ (path text : Bytes) (ends : List ℕ) (count : ℕ) where
  pub left_start : count ≤ length ends → Left path text ends count (is_in path (paths_of text ends count)) 0 0
  left_start h = record { keeps = refl; few = h }

  module _ (t : Bool) (k at : ℕ) (inv : Left path text ends count t k at) where
    long : length (take count ends) ≡ count
    long = length-take-le count ends inv.few

    pub left_none : count ≤ k → false ≡ t
    unfolding cut any
    left_none h = rw (drop_of_length-le (take count ends) {i = k} (omega (arith, long))) at inv.keeps

    module _ (h : k < count) (e : ℕ) (ee : e ≡ get_or ends k 0) (b : Bool) (eb : b ≡ same path (section text at e)) where
      first : b || is_in path (cut text e (drop (k + 1) (take count ends))) ≡ t
      unfolding cut any
      first =
          let z : drop k (take count ends) ≡ e ∷ drop (k + 1) (take count ends) = here (take count ends) k (omega (arith, long)) ∙ rw (get_or-take count ends k 0 h, ee) in
          rw eb (rw z at inv.keeps)

      pub left_here : b ≡ true → true ≡ t
      left_here g = rw g at first

      pub left_on : b ≡ false → Left path text ends count t (k + 1) e
      left_on g = record { keeps = rw g at first; few = inv.few }

pub ruleset lefts = (rules, left_start, left_none, left_here, left_on)

-- ---- by the flags

pub flag_unset : (path text : Bytes) (stamp : ℕ) (ends : List ℕ) (count flag : ℕ) → flag ≡ flag_place path → Flagged stamp ends (paths_of text ends count) → (x : ℕ) → x ≡ get_or ends flag 0 → (x ≡ stamp → ⊥) → false ≡ is_in path (paths_of text ends count)
flag_unset path text stamp ends count flag ef fl x ex z = sym (fl path (rw (← ef, ← ex) z))

pub ruleset flags = (rules, flag_unset)

-- ---- behind the rows

module _ (mem : Bytes) (e : Name) (elen : ℕ) (tail name : Bytes) (flag prefix : ℕ) (s : Walk) (text : Bytes) (ends : List ℕ) (g : NewGiven mem e elen tail name flag prefix s text ends) where
  abbrev path : Bytes
  path = dotted (name_of mem e) ++ (tail ++ name)

  abbrev old : List Bytes
  old = paths_of text ends s.count

  rd : Ready prefix s text ends
  rd = g.ready

  sz : Sized mem e elen tail name
  sz = g.sized

  path_long : length path ≡ elen + (length tail + length name)
  path_long = length-append (dotted (name_of mem e)) (tail ++ name) ∙ omega (arith, length-append tail name, length_dotted (name_of mem e), sz.is)

  old_long : length old ≡ s.count
  old_long = cut_length text 0 (take s.count ends) ∙ length-take-le s.count ends (omega (arith, rd.few, rd.ends_long))

  pub new_many : s.count ≡ 1024 → (e : TooMany) → Answer prefix s.entered (old ++ (path ∷ [])) (Err e) text ends
  new_many m e w = omega (arith, w.paths, length-append old (path ∷ []), old_long, m)

  pub len_fits : length tail + length name < 2 ^ 64
  len_fits = omega (arith, sz.fits)

  pub path_fits : elen + (length tail + length name) < 2 ^ 64
  path_fits = omega (arith, sz.fits)

  pub cost_fits : prefix + (elen + (length tail + length name)) < 2 ^ 64
  cost_fits = omega (arith, sz.fits, rd.small)

  pub used_fits : s.used + (prefix + (elen + (length tail + length name))) < 2 ^ 64
  used_fits = omega (arith, sz.fits, rd.small, rd.used_low)

  cost_is : cost prefix (old ++ (path ∷ [])) ≡ s.used + (prefix + (elen + (length tail + length name)))
  cost_is = cost_on prefix old path ∙ omega (arith, rd.used_is, path_long)

  pub new_long : 32768 < s.used + (prefix + (elen + (length tail + length name))) → (e : TooMany) → Answer prefix s.entered (old ++ (path ∷ [])) (Err e) text ends
  new_long l e w = omega (arith, w.bytes, cost_is)

  pub flag_room : (x : ℕ) → flag < length (set ends s.count x)
  flag_room x = omega (arith, g.flag_is, flag_low path, rd.ends_long, length-set ends s.count x)

  module _ (l : s.used + (prefix + (elen + (length tail + length name))) ≤ 32768) where
    pub end_fits : s.end + (elen + (length tail + length name)) < 2 ^ 64
    end_fits = omega (arith, rd.end_low)

    pub end_small : s.end + (elen + (length tail + length name)) < 2 ^ 32
    end_small = omega (arith, rd.end_low)

    module _ (m : s.count ≡ 1024 → ⊥) where
      pub new_room : s.count < length ends
      new_room = omega (arith, rd.few, rd.ends_long, m)

      module _ (text' : Bytes) (o : ℕ) (f : text' ▸ o ≡ emit (text ▸ s.end) path) (kept : length text' ≡ length text) where
        room : s.end + length path ≤ length text
        room = omega (arith, rd.end_low, rd.text_long, path_long)

        abbrev end : ℕ
        end = s.end + (elen + (length tail + length name))

        end_is : end ≡ s.end + length path
        end_is = omega (arith, path_long)

        abbrev ends' : List ℕ
        ends' = set (set ends s.count end) flag s.stamp

        ends_are : take (s.count + 1) ends' ≡ take s.count ends ++ (end ∷ [])
        ends_are =
            ap (λ n. take n ends') (add-one s.count)
            ∙ take-set-le (suc s.count) (set ends s.count end) flag s.stamp (omega (arith, rd.few, m, g.flag_is))
            ∙ take-suc-set ends s.count end new_room

        new_paths : paths_of text' ends' (s.count + 1) ≡ old ++ (path ∷ [])
        new_paths =
            ap (cut text' 0) ends_are
            ∙ cut_on text' 0 (take s.count ends) s.end end rd.ascends
            ∙ ap (λ (x : Bytes). cut text' 0 (take s.count ends) ++ (x ∷ [])) (ap (section text' s.end) end_is ∙ piece_there text text' path s.end o room f)
            ∙ ap (λ (x : List Bytes). x ++ (path ∷ [])) (cut_same text text' 0 (take s.count ends) s.end rd.ascends (front_kept text text' path s.end o room f))

        abbrev made : Walk
        made = record { entered = s.entered; count = s.count + 1; end = end; used = s.used + (prefix + (elen + (length tail + length name))); stamp = s.stamp }

        pub new_put : Answer prefix s.entered (old ++ (path ∷ [])) (Ok made) text' ends'
        new_put =
            record {
              ready = record {
                ascends = rw ends_are (ascends_on 0 (take s.count ends) s.end end rd.ascends (omega arith));
                used_is = sym (ap (cost prefix) new_paths ∙ cost_is);
                end_low = omega (arith, rd.end_low);
                used_low = l;
                few = omega (arith, rd.few, m);
                entered_few = rd.entered_few;
                text_long = omega (arith, rd.text_long, kept);
                ends_long = omega (arith, rd.ends_long, length-set ends s.count end, length-set (set ends s.count end) flag s.stamp);
                flagged = rw (new_paths, g.flag_is) (flagged_on s.stamp ends old path s.count end rd.flagged (omega (arith, rd.few, m)) rd.ends_long);
                small = rd.small;
              };
              entered_is = refl;
              paths_are = new_paths;
            }

pub ruleset news = (rules, new_many, len_fits, path_fits, cost_fits, used_fits, new_long, flag_room, end_fits, end_small, new_room, new_put)

-- ---- where the list does not have it yet

module _ (mem : Bytes) (e : Name) (elen : ℕ) (tail name : Bytes) (sz : Sized mem e elen tail name) (num : ℕ) (en : num ≡ number 0 (dotted (name_of mem e) ++ tail)) (prefix : ℕ) (s : Walk) (text : Bytes) (ends : List ℕ) (rd : Ready prefix s text ends) where
  pub count_fits : s.count ≤ length ends
  count_fits = omega (arith, rd.few, rd.ends_long)

  pub flags_stand : Flagged s.stamp ends (paths_of text ends s.count)
  flags_stand = rd.flagged

  module _ (x : ℕ) (ex : x ≡ number num name) where
    pub flag_is : 1024 + x % 16384 ≡ flag_place (dotted (name_of mem e) ++ (tail ++ name))
    flag_is = rw (ex, en, ← number_on 0 (dotted (name_of mem e) ++ tail) name, append_assoc (dotted (name_of mem e)) tail name)

    pub new_given : NewGiven mem e elen tail name (1024 + x % 16384) prefix s text ends
    new_given = record { sized = sz; flag_is = flag_is; ready = rd }

  module _ (b : Bool) (eb : b ≡ is_in (dotted (name_of mem e) ++ (tail ++ name)) (paths_of text ends s.count)) where
    pub add_old : b ≡ true → Answer prefix s.entered (add_new (paths_of text ends s.count) (dotted (name_of mem e) ++ (tail ++ name))) (Ok s) text ends
    unfolding add_new
    add_old h = record { ready = rd; entered_is = refl; paths_are = sym (rw (← eb, h)) }

pub add_new_lem : (prefix v : ℕ) (old : List Bytes) (path : Bytes) (r : Result Walk TooMany) (text' : Bytes) (ends' : List ℕ) → Answer prefix v (old ++ (path ∷ [])) r text' ends' → (b : Bool) → b ≡ is_in path old → b ≡ false → Answer prefix v (add_new old path) r text' ends'
unfolding add_new
add_new_lem prefix v old path r text' ends' a b eb h = rw (← eb, h) a

pub ruleset adds = (rules, count_fits, flags_stand, flag_is, new_given, add_old)

pub ruleset adds_new = (rules, add_new_lem)
