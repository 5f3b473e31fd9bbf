-- Laws: a walk, turn by turn. What the whole comes to is what was listed so far and what is left; a limit that is passed stays passed.
-- Assumes nothing.
use Rattle.std.specs.Prelude.{ℕ, ◌+◌, ◌≤◌, ◌≡◌, refl, Bool, true, false, cond, List, [], ◌∷◌, ◌++◌, length, Result, IsErrAnd}
use Rattle.std.proofs.Math.Path.{sym, ap}
use Rattle.std.proofs.Common.{◌∙◌, arith, add-zero, length-append}
use Rattle.text.specs.Ascii.{Bytes}
use Rattle.design.specs.Lists.{is_in, add_new, add_all}
use Rattle.design.specs.Laws.{add_all_append}
use Rattle.listing.specs.declared.TooMany.{TooMany}
use Rattle.listing.specs.declared.Walk.{Walk}
use Rattle.listing.specs.Listing.{cost, cost_on, paths_of, Within, Ready, Listed, Answer, refused}

-- ---- a list only grows

new_grows : (prefix : ℕ) (l : List Bytes) (p : Bytes) → (length l ≤ length (add_new l p)) × (cost prefix l ≤ cost prefix (add_new l p))
unfolding add_new
new_grows prefix l p = go (is_in p l)
  where
    go : (b : Bool) → (length l ≤ length (cond b l (l ++ (p ∷ [])))) × (cost prefix l ≤ cost prefix (cond b l (l ++ (p ∷ []))))
    go true = (omega arith, omega arith)
    go false = (omega (arith, length-append l (p ∷ [])), omega (arith, cost_on prefix l p))

all_grows : (prefix : ℕ) (l ps : List Bytes) → (length l ≤ length (add_all l ps)) × (cost prefix l ≤ cost prefix (add_all l ps))
unfolding add_all
all_grows prefix l [] = (omega arith, omega arith)
all_grows prefix l (p ∷ ps) =
    let a = new_grows prefix l p in
    let b = all_grows prefix (add_new l p) ps in
    (omega (arith, a.0, b.0), omega (arith, a.1, b.1))

-- so what is within the limits was within them before
pub within_less : (prefix v v' : ℕ) (l ps : List Bytes) → v ≤ v' → Within prefix v' (add_all l ps) → Within prefix v l
within_less prefix v v' l ps h w =
    let g = all_grows prefix l ps in
    record { entered = omega (arith, w.entered); paths = omega (arith, w.paths, g.0); bytes = omega (arith, w.bytes, g.1) }

-- ---- turns

-- the whole enters `total` modules and lists `all`: `v` modules and `rest` are left
pub record Turn (prefix total : ℕ) (all : List Bytes) (s : Walk) (text : Bytes) (ends : List ℕ) (v : ℕ) (rest : List Bytes) : Type 0 where
  pub ready : Ready prefix s text ends
  pub entered_left : s.entered + v ≡ total
  pub paths_left : add_all (paths_of text ends s.count) rest ≡ all

module _ (prefix : ℕ) where
  pub turn_start : (s : Walk) (text : Bytes) (ends : List ℕ) (v : ℕ) (rest : List Bytes) → Ready prefix s text ends → Turn prefix (s.entered + v) (add_all (paths_of text ends s.count) rest) s text ends v rest
  turn_start s text ends v rest h = record { ready = h; entered_left = refl; paths_left = refl }

  module _ (total : ℕ) (all : List Bytes) (s : Walk) (text : Bytes) (ends : List ℕ) (v : ℕ) (rest : List Bytes) (t : Turn prefix total all s text ends v rest) where
    -- nothing is left
    pub turn_end : v ≡ 0 → rest ≡ [] → Listed prefix total all s text ends
    unfolding add_all
    turn_end z e = record { ready = t.ready; entered_is = sym (add-zero s.entered) ∙ ap (λ n. s.entered + n) (sym z) ∙ t.entered_left; paths_are = rw e at t.paths_left }

    -- a piece of what is left was walked
    module _ (x y : ℕ) (ps qs : List Bytes) (ev : v ≡ x + y) (er : rest ≡ ps ++ qs) where
      whole : add_all (add_all (paths_of text ends s.count) ps) qs ≡ all
      whole = sym (add_all_append (paths_of text ends s.count) ps qs) ∙ (ap (add_all (paths_of text ends s.count)) (sym er) ∙ t.paths_left)

      -- past a limit
      pub turn_stop : (Within prefix (s.entered + x) (add_all (paths_of text ends s.count) ps) → ⊥) → (e : TooMany) (r : Result Walk TooMany) (text' : Bytes) (ends' : List ℕ) → IsErrAnd r (λ y. y ≡ e) → Answer prefix total all r text' ends'
      turn_stop out e r text' ends' h = refused prefix total all e r text' ends' h (λ w. out (within_less prefix (s.entered + x) total (add_all (paths_of text ends s.count) ps) qs (omega (arith, t.entered_left, ev)) (rw (← whole) at w)))

      -- or it came to r
      pub turn_next : (r : Walk) (text' : Bytes) (ends' : List ℕ) → Listed prefix (s.entered + x) (add_all (paths_of text ends s.count) ps) r text' ends' → Turn prefix total all r text' ends' y qs
      turn_next r text' ends' a =
          record {
            ready = a.ready;
            entered_left = omega (arith, a.entered_is, t.entered_left, ev);
            paths_left = ap (λ (l : List Bytes). add_all l qs) a.paths_are ∙ whole;
          }

-- one path alone
pub add_one_path : (l : List Bytes) (p : Bytes) → add_all l (p ∷ []) ≡ add_new l p
unfolding add_all
add_one_path l p = refl
