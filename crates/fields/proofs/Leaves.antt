-- NAME and PATH, byte by byte and part by part.
-- Assumes nothing.
use mathlib.Core.Path.{◌≡◌, refl, ◌∙◌, sym}
use Prim.Native.Nat.{ℕ, suc, ◌+◌, ◌-◌, ◌<◌, ◌≤◌}
use native.Mathlib.Omega.{arith}
use mathlib.Core.Bool.{Bool, true, false, not, and-false, and-true}
use mathlib.Core.List.{List, [], ◌∷◌}
use lib.ListN.{length, take, drop, get_or}
use borrow.Author.Rules.{rules}
use borrow.Author.Tests.{le-leb, lt-leb, not-true, not-false}
use Rattle.text.specs.Classes.{opens_name, in_name}
use mathlib.Core.Logic.{⊎_elim}
use native.Mathlib.Nat.{eq-or-lt_of_le}
use lib.ListN.{length-drop}
use lib.Seq.{take_all}
use Rattle.text.specs.Ascii.{ascii, byte}
use Rattle.text.specs.Compare.{same}
use Rattle.text.specs.Scan.{all, up_to, Ends}
use Rattle.text.specs.Sames.{differ}
use Rattle.fields.specs.Fields.{is_name, is_part, is_path, is_net}
use Rattle.fields.specs.Alls.{all_end, all_stop, all_step}
use Rattle.fields.specs.Splits.{cut_from, cut_more, cut_last}

pub name_none : (w : List ℕ) → length w ≡ 0 → false ≡ is_name w
unfolding is_name
name_none [] h = refl
name_none (x ∷ xs) h = absurd (omega arith)

pub name_long : (w : List ℕ) → 64 < length w → false ≡ is_name w
unfolding is_name
name_long [] h = absurd (omega arith)
name_long (x ∷ xs) h = simp (lt-leb (suc (length xs)) 64 h, and-false)

pub name_not : (w : List ℕ) (r : Bool) → (length w ≡ 0 → ⊥) → r ≡ opens_name (get_or w 0 0) → not r ≡ true → false ≡ is_name w
unfolding is_name
name_not [] r h e g = absurd (h refl)
name_not (x ∷ xs) r h e g = simp (sym e ∙ not-true r g)

pub name_opens : (w : List ℕ) (r : Bool) → (length w ≡ 0 → ⊥) → length w ≤ 64 → r ≡ opens_name (get_or w 0 0) → not r ≡ false → is_name w ≡ all in_name (drop 1 w)
unfolding is_name
name_opens [] r h k e g = absurd (h refl)
name_opens (x ∷ xs) r h k e g = simp (sym e ∙ not-false r g, le-leb (suc (length xs)) 64 k, and-true)

pub ruleset alls = (rules, name_none, name_long, name_not, name_opens, all_end, all_stop, all_step)

-- ---- a part of a PATH
pub part_none : (w : List ℕ) → length w ≡ 0 → false ≡ is_part w
unfolding is_part same
part_none [] h = refl
part_none (x ∷ xs) h = absurd (omega arith)

pub part_dot : (w : List ℕ) (r : Bool) → (length w ≡ 0 → ⊥) → r ≡ same w (ascii ".") → r ≡ true → false ≡ is_part w
unfolding is_part
part_dot w r h e g = simp (← differ w [] h, ← e, g)

pub part_rest : (w : List ℕ) (r q : Bool) → (length w ≡ 0 → ⊥) → r ≡ same w (ascii ".") → r ≡ false → q ≡ same w (ascii "..") → not q ≡ is_part w
unfolding is_part
part_rest w r q h e g f = simp (← differ w [] h, ← e, g, ← f)

whole : (i e : ℕ) (w : List ℕ) → Ends (i + up_to (byte "/") (drop i w)) (length w) e → e ≡ length w → take (e - i) (drop i w) ≡ drop i w
whole i e w at l = take_all (e - i) (drop i w) (simp length-drop (omega arith))

-- ---- a PATH, from the part that begins at i and ends at e
module _ (w : List ℕ) (i e : ℕ) (a : Bool) (inv : a ≡ is_path (drop i w)) (at : Ends (i + up_to (byte "/") (drop i w)) (length w) e) (r : Bool) (p : r ≡ is_part (take (e - i) (drop i w))) where
  module _ (t : not r ≡ true) where
    pub path_stop : i ≤ length w → false ≡ a
    unfolding is_path all
    path_stop h = sym (inv ∙ ⊎_elim (λ (l : e ≡ length w). rw (cut_last (byte "/") w i e at l, ← whole i e w at l, ← p, not-true r t)) (λ (l : e < length w). rw (cut_more (byte "/") w i e at l, ← p, not-true r t)) (eq-or-lt_of_le at.within))

  module _ (t : not r ≡ false) where
    pub path_end : e ≡ length w → true ≡ a
    unfolding is_path all
    path_end l = sym (inv ∙ rw (cut_last (byte "/") w i e at l, ← whole i e w at l, ← p, not-false r t))

    pub path_step : (e ≡ length w → ⊥) → a ≡ is_path (drop (e + 1) w)
    unfolding is_path all
    path_step l = inv ∙ rw (cut_more (byte "/") w i e at (omega (arith, at.within)), ← p, not-false r t)

pub ruleset paths = (rules, cut_from, path_stop, path_end, path_step)

-- ---- a NET
pub net_name : (w : List ℕ) (r : Bool) → r ≡ is_name w → r ≡ true → true ≡ is_net w
unfolding is_net
net_name w r e g = simp (← e, g)

pub net_rest : (w : List ℕ) (r q : Bool) → r ≡ is_name w → r ≡ false → q ≡ same w (ascii "-") → q ≡ is_net w
unfolding is_net
net_rest w r q e g f = simp (← e, g, ← f)
