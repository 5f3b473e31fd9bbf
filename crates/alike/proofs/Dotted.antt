-- Two streams of bytes read with `/` as `.`: what `eq` and `lt` say of them. Assumes nothing.
use Rattle.std.specs.Prelude.{ℕ, ◌≡◌, Bool, Option, Some, map, nat_eq}
use Rattle.std.proofs.Common.{◌∙◌, sym}
use Rattle.std.specs.Iterator.{ComparesItemsByEq}
use Rattle.std.specs.Iterator.Order.{TestsOrderOfItems}
use Rattle.std.specs.Ordering.{is_lt, nat_cmp}
use Rattle.std.proofs.lemmas.Iterator.{YieldsList}
use Rattle.std.proofs.lemmas.Iterator.Consumers.{YieldsList-at}
use Rattle.text.specs.Ascii.{Bytes}
use Rattle.text.specs.Classes.{dot_of}
use Rattle.text.specs.Compare.{same, less}
use Rattle.text.proofs.Streams.{same_from_yields_List, less_from_yields_List}
use Rattle.out.specs.Bytewise.{dotted}
use Rattle.names.specs.Laws.{dotted_map}

module _ {S T : Type 0} {steps : S → Option ℕ → S → Type 0} {others : T → Option ℕ → T → Type 0} {s : S} (other : T) (r : Bool) (xs ys : Bytes) (e : YieldsList steps (λ x. x) s (map dot_of xs)) (f : YieldsList others (λ x. x) other (map dot_of ys)) where
  pub dotted_same : ComparesItemsByEq steps (λ x t. t ≡ x) others s other nat_eq r → r ≡ same (dotted xs) (dotted ys)
  dotted_same h = same_from_yields_List (λ x t. t ≡ x) other r h e (λ t p. YieldsList-at p f) ∙ sym (rw (dotted_map xs, dotted_map ys))

  pub dotted_less : TestsOrderOfItems steps (λ x t. t ≡ x) others s other (λ x y. Some (nat_cmp x y)) is_lt r → r ≡ less (dotted xs) (dotted ys)
  dotted_less h = less_from_yields_List (λ x t. t ≡ x) other r h e (λ t p. YieldsList-at p f) ∙ sym (rw (dotted_map xs, dotted_map ys))
