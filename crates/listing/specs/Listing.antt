-- How a text and its ends stand for a list of paths, how far a walk has come, and what its answer says: a refusal exactly where a limit is passed, else the paths.
-- Assumes nothing.
use Rattle.std.specs.Prelude.{ℕ, suc, ◌+◌, ◌-◌, ◌%◌, ◌≤◌, ◌<◌, ◌^◌, ◌≡◌, refl, Bool, true, false, List, [], ◌∷◌, ◌++◌, length, take, drop, get_or, Result, Ok, Err, IsErrAnd}
use Rattle.std.proofs.Common.{sym, ap, ◌∙◌, arith, take-take}
use Rattle.text.specs.Ascii.{Bytes}
use Rattle.text.specs.Compare.{same}
use Rattle.text.specs.Lists.{drop_take}
use Rattle.jobindex.specs.Index.{section}
use Rattle.names.specs.Name.{name_of}
use Rattle.names.specs.declared.name.Name.{Name}
use Rattle.design.specs.Lists.{is_in}
use Rattle.design.specs.Paths.{dotted}
use Rattle.paths.specs.Pieces.{Sized}
use Rattle.pathnumber.specs.Number.{number}
use Rattle.walk.specs.Limits.{most_entered, most_paths, most_path_bytes}
use Rattle.walk.specs.Walk.{sum_over}
use Rattle.listing.specs.declared.TooMany.{TooMany}
use Rattle.listing.specs.declared.Walk.{Walk}

-- ---- the list

-- the parts of a text that end at these places, the first from `at` on
unfoldable pub cut : Bytes → ℕ → List ℕ → List Bytes
cut text at [] = []
cut text at (e ∷ es) = section text at e ∷ cut text e es

-- the first n paths
abbrev pub paths_of : Bytes → List ℕ → ℕ → List Bytes
paths_of text ends n = cut text 0 (take n ends)

-- where r is true, no path that ends in `last` is a row of the text that ends at `end`
pub record Apart (last : ℕ) (text : Bytes) (end : ℕ) (r : Bool) : Type 0 where
  pub is : r ≡ true → (path : Bytes) (at : ℕ) → (length path ≡ 0 → ⊥) → get_or path (length path - 1) 0 ≡ last → false ≡ same path (section text at end)

-- places that do not fall, from a up to z
unfoldable pub Ascends : ℕ → List ℕ → ℕ → Type 0
Ascends a [] z = a ≡ z
Ascends a (e ∷ es) z = (a ≤ e) × Ascends e es z

-- ---- the flags

abbrev pub flag_count : ℕ
flag_count = 16384

-- where a path's flag stands: behind the ends, by the path's number
abbrev pub flag_place : Bytes → ℕ
flag_place p = most_paths + number 0 p % flag_count

-- a path whose flag has not the walk's stamp is none of the list
abbrev pub Flagged : ℕ → List ℕ → List Bytes → Type 0
Flagged stamp ends ps = (p : Bytes) → (get_or ends (flag_place p) 0 ≡ stamp → ⊥) → is_in p ps ≡ false

-- ---- the limits

-- the bytes of the paths, with what the scope's path adds to each
unfoldable pub cost : ℕ → List Bytes → ℕ
cost prefix ps = sum_over (λ (p : Bytes). prefix + length p) ps

-- "modules entered by one domain's walk 4,096, ..; its paths 1,024, and 32,768 bytes together"
pub record Within (prefix v : ℕ) (ps : List Bytes) : Type 0 where
  pub entered : v ≤ most_entered
  pub paths : length ps ≤ most_paths
  pub bytes : cost prefix ps ≤ most_path_bytes

-- ---- how far a walk has come

abbrev pub nowhere : ℕ → Walk
nowhere stamp = record { entered = 0; count = 0; end = 0; used = 0; stamp = stamp }

-- a walk that has passed no limit, with its list in the text and the ends
pub record Ready (prefix : ℕ) (s : Walk) (text : Bytes) (ends : List ℕ) : Type 0 where
  pub ascends : Ascends 0 (take s.count ends) s.end
  pub used_is : s.used ≡ cost prefix (paths_of text ends s.count)
  pub end_low : s.end ≤ s.used
  pub used_low : s.used ≤ most_path_bytes
  pub few : s.count ≤ most_paths
  pub entered_few : s.entered ≤ most_entered
  pub text_long : most_path_bytes ≤ length text
  pub ends_long : most_paths + flag_count ≤ length ends
  pub flagged : Flagged s.stamp ends (paths_of text ends s.count)
  pub small : prefix < 2 ^ 32

-- for a path that the list does not have
pub record NewGiven (mem : Bytes) (e : Name) (elen : ℕ) (tail name : Bytes) (flag prefix : ℕ) (s : Walk) (text : Bytes) (ends : List ℕ) : Type 0 where
  pub sized : Sized mem e elen tail name
  pub flag_is : flag ≡ flag_place (dotted (name_of mem e) ++ (tail ++ name))
  pub ready : Ready prefix s text ends

-- a walk that has entered v modules and listed ps
pub record Listed (prefix v : ℕ) (ps : List Bytes) (w : Walk) (text : Bytes) (ends : List ℕ) : Type 0 where
  pub ready : Ready prefix w text ends
  pub entered_is : w.entered ≡ v
  pub paths_are : paths_of text ends w.count ≡ ps

-- the answer of a walk that enters v modules and lists ps: a limit is passed, or it has listed them
abbrev pub Answer : ℕ → ℕ → List Bytes → Result Walk TooMany → Bytes → List ℕ → Type 0
Answer prefix v ps (Ok w) text ends = Listed prefix v ps w text ends
Answer prefix v ps (Err _) text ends = Within prefix v ps → ⊥

-- ---- laws: answers

-- a refusal that is handed on
pub refused : (prefix v : ℕ) (ps : List Bytes) (x : TooMany) (r : Result Walk TooMany) (text : Bytes) (ends : List ℕ) → IsErrAnd r (λ y. y ≡ x) → (Within prefix v ps → ⊥) → Answer prefix v ps r text ends
refused prefix v ps x (Err _) text ends h out = out
refused prefix v ps x (Ok _) text ends h out = absurd h

-- ---- laws: places that ascend

pub ascends_le : (a : ℕ) (es : List ℕ) (z : ℕ) → Ascends a es z → a ≤ z
unfolding Ascends
ascends_le a [] z h = omega (arith, h)
ascends_le a (e ∷ es) z h = omega (arith, h.0, ascends_le e es z h.1)

pub ascends_on : (a : ℕ) (es : List ℕ) (z x : ℕ) → Ascends a es z → z ≤ x → Ascends a (es ++ (x ∷ [])) x
unfolding Ascends
ascends_on a [] z x h l = (omega (arith, h), refl)
ascends_on a (e ∷ es) z x h l = (h.0, ascends_on e es z x h.1 l)

-- ---- parts of a text

pub section_same : (t t' : Bytes) (a e z : ℕ) → e ≤ z → take z t' ≡ take z t → section t' a e ≡ section t a e
section_same t t' a e z h k =
    let f : take e t' ≡ take e t = sym (take-take e z t' h) ∙ ap (take e) k ∙ take-take e z t h in
    sym (drop_take a e t') ∙ ap (drop a) f ∙ drop_take a e t

pub cut_same : (t t' : Bytes) (a : ℕ) (es : List ℕ) (z : ℕ) → Ascends a es z → take z t' ≡ take z t → cut t' a es ≡ cut t a es
unfolding cut Ascends
cut_same t t' a [] z h k = refl
cut_same t t' a (e ∷ es) z h k = rw (section_same t t' a e z (ascends_le e es z h.1) k, cut_same t t' e es z h.1 k)

pub cut_on : (t : Bytes) (a : ℕ) (es : List ℕ) (z x : ℕ) → Ascends a es z → cut t a (es ++ (x ∷ [])) ≡ cut t a es ++ (section t z x ∷ [])
unfolding cut Ascends
cut_on t a [] z x h = rw h
cut_on t a (e ∷ es) z x h = ap (λ (l : List Bytes). section t a e ∷ l) (cut_on t e es z x h.1)

pub cut_length : (t : Bytes) (a : ℕ) (es : List ℕ) → length (cut t a es) ≡ length es
unfolding cut
cut_length t a [] = refl
cut_length t a (e ∷ es) = ap suc (cut_length t e es)

-- ---- what paths cost

pub cost_on : (prefix : ℕ) (ps : List Bytes) (p : Bytes) → cost prefix (ps ++ (p ∷ [])) ≡ cost prefix ps + (prefix + length p)
unfolding cost sum_over
cost_on prefix [] p = omega arith
cost_on prefix (q ∷ ps) p =
    let h : cost prefix (ps ++ (p ∷ [])) ≡ cost prefix ps + (prefix + length p) = cost_on prefix ps p in
    omega (arith, h)
