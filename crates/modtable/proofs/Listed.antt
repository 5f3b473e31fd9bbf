-- The non-output ports of a module, listed one after the other: those stored so far, and those behind the cursor, are all; and a name looked for among them.
-- Assumes nothing.
use Rattle.std.specs.Prelude.{Some, None}
use Prim.Native.Nat.{ℕ, ◌+◌, ◌*◌, ◌≤◌, ◌<◌}
use mathlib.Core.Path.{◌≡◌, refl, sym, ap, ap₂, ◌∙◌}
use mathlib.Core.Bool.{Bool, true, false, ◌||◌}
use mathlib.Core.List.{List, [], ◌∷◌, ◌++◌, append-nil, append_assoc}
use native.Mathlib.Omega.{arith}
use lib.ListN.{length, drop, length-append, drop_of_length-le}
use borrow.Author.Rules.{rules}
use Rattle.text.specs.Ascii.{Bytes}
use Rattle.text.specs.Compare.{same}
use Rattle.text.specs.Scan.{any}
use Rattle.jobindex.specs.Index.{module_row, rows}
use Rattle.jobindex.specs.Rows.{rows_more, rows_length, rows_same, rows_here}
use Rattle.lines.specs.Cursors.{spanned}
use Rattle.ports.specs.declared.Cursor.{Cursor}
use Rattle.ports.specs.declared.Cursor.TheVariants as cursor
use Rattle.ports.specs.declared.Step.{Step}
use Rattle.ports.specs.Cursors.{ports_from, inputs_from, InputSeen}
use Rattle.ports.specs.Starts.{inputs_start}
use Rattle.design.specs.Lists.{is_in}
use Rattle.design.specs.Ports.{input_ports}
use Rattle.modtable.specs.Table.{input_in, part_put}
use Rattle.modtable.specs.Making.{InputsGiven, InputsPut}
use Rattle.modtable.proofs.Numbers.{put_part, put_other, put_long}

-- ---- listed

-- the first i are stored, those behind the cursor are left
pub record InputsOn (job : Bytes) (index : List ℕ) (k : ℕ) (inputs₀ inputs : List ℕ) (i : ℕ) (c : Cursor) : Type 0 where
  pub long : length inputs ≡ length inputs₀
  pub low : i ≤ 192
  pub done : rows (input_in job inputs) i ++ inputs_from job index k c ≡ input_ports (module_row job index k)
  pub given : InputsGiven job index k inputs₀

module _ (job : Bytes) (index : List ℕ) (k : ℕ) (inputs₀ : List ℕ) where
  pub inputs_given_row : InputsGiven job index k inputs₀ → k ≤ 128
  inputs_given_row g = omega (arith, g.row)

  pub inputs_on : InputsGiven job index k inputs₀ → (c : Cursor) → c ≡ cursor.Header (ports_from index k) false → InputsOn job index k inputs₀ inputs₀ 0 c
  unfolding rows
  inputs_on g c e = rw e (record { long = refl; low = omega arith; done = inputs_start job index k; given = g })

  module _ (inputs : List ℕ) (i : ℕ) (c : Cursor) (inv : InputsOn job index k inputs₀ inputs i c) where
    pub inputs_row : k ≤ 128
    inputs_row = omega (arith, inv.given.row)

    all_long : i + length (inputs_from job index k c) ≡ length (input_ports (module_row job index k))
    all_long = sym (length-append (rows (input_in job inputs) i) (inputs_from job index k c) ∙ ap (λ n. n + length (inputs_from job index k c)) (rows_length (input_in job inputs) i)) ∙ ap length inv.done

    pub inputs_end : InputSeen job index k c None → InputsPut job index k inputs i
    inputs_end seen =
        let z : inputs_from job index k c ≡ [] = sym seen.says in
        record {
          inputs_are = sym (append-nil (rows (input_in job inputs) i)) ∙ ap (λ (l : List Bytes). rows (input_in job inputs) i ++ l) (sym z) ∙ inv.done;
          few = inv.low;
        }

    module _ (r : Step) (seen : InputSeen job index k c (Some r)) where
      left_is : inputs_from job index k c ≡ spanned job r.name ∷ inputs_from job index k r.next
      left_is = sym seen.says

      pub inputs_less : length (inputs_from job index k r.next) < length (inputs_from job index k c)
      inputs_less = omega (arith, ap length left_is)

      inputs_low : i < 192
      inputs_low = omega (arith, all_long, ap length left_is, inv.given.few)

      pub inputs_place : 2 * i + 1 < length inputs
      inputs_place = omega (arith, inputs_low, inv.given.long, inv.long)

      put_kept : (j : ℕ) → j < i → input_in job (part_put inputs (2 * i) r.name) j ≡ input_in job inputs j
      put_kept j l = rw (put_other inputs (2 * i) r.name (2 * j) (λ e. omega (arith, e)) (λ e. omega (arith, e)), put_other inputs (2 * i) r.name (2 * j + 1) (λ e. omega (arith, e)) (λ e. omega (arith, e)))

      pub inputs_next : (t : List ℕ) → t ≡ part_put inputs (2 * i) r.name → InputsOn job index k inputs₀ t (i + 1) r.next
      inputs_next t et =
          rw et (record {
            long = put_long inputs (2 * i) r.name ∙ inv.long;
            low = omega (arith, inputs_low);
            done =
                ap (λ (l : List Bytes). l ++ inputs_from job index k r.next) (rows_more (input_in job (part_put inputs (2 * i) r.name)) i
                ∙ ap₂ (λ (l : List Bytes) (x : Bytes). l ++ (x ∷ [])) (rows_same (input_in job (part_put inputs (2 * i) r.name)) (input_in job inputs) i put_kept) (put_part inputs (2 * i) r.name inputs_place job inv.given.small))
                ∙ append_assoc (rows (input_in job inputs) i) (spanned job r.name ∷ []) (inputs_from job index k r.next)
                ∙ ap (λ (l : List Bytes). rows (input_in job inputs) i ++ l) (sym left_is)
                ∙ inv.done;
            given = inv.given;
          })

pub ruleset inputs = (rules, inputs_given_row, inputs_on, inputs_row, inputs_end, inputs_less, inputs_place, inputs_next)

-- ---- a name among them

-- t is the answer: the name is one of those left, or not
pub record Among (job : Bytes) (inputs : List ℕ) (n : ℕ) (name : Bytes) (t : Bool) (i : ℕ) : Type 0 where
  pub keeps : is_in name (drop i (rows (input_in job inputs) n)) ≡ t
  pub few : n ≤ 192

module _ (job : Bytes) (inputs : List ℕ) (n : ℕ) (name : Bytes) where
  pub among_start : n ≤ 192 → Among job inputs n name (is_in name (rows (input_in job inputs) n)) 0
  among_start h = record { keeps = refl; few = h }

  module _ (t : Bool) (i : ℕ) (inv : Among job inputs n name t i) where
    pub among_none : n ≤ i → false ≡ t
    unfolding any
    among_none h = rw (drop_of_length-le (rows (input_in job inputs) n) {i = i} (omega (arith, rows_length (input_in job inputs) n))) at inv.keeps

    module _ (h : i < n) (own : Bytes) (eo : own ≡ input_in job inputs i) (b : Bool) (eb : b ≡ same name own) where
      first : b || is_in name (drop (i + 1) (rows (input_in job inputs) n)) ≡ t
      unfolding any
      first = rw (eb, eo) (rw (rows_here (input_in job inputs) n i h) at inv.keeps)

      pub among_here : b ≡ true → true ≡ t
      among_here g = rw g at first

      pub among_on : b ≡ false → Among job inputs n name t (i + 1)
      among_on g = record { keeps = rw g at first; few = inv.few }

pub ruleset amongs = (rules, among_start, among_none, among_here, among_on)
