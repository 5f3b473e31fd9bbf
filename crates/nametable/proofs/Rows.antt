-- What is read and stored, from what the code is told. Assumes nothing.
use Prim.Native.Nat.{ℕ, ◌+◌, ◌*◌, ◌<◌, ◌≤◌, ◌^◌}
use mathlib.Core.Path.{◌≡◌}
use mathlib.Core.Bool.{Bool, true, false}
use mathlib.Core.List.{List}
use native.Mathlib.Omega.{arith}
use lib.ListN.{get_or, set}
use borrow.Author.Rules.{rules}
use borrow.Author.Tests.{eq-eqb, ne_eqb}
use Rattle.names.specs.Name.{named}
use Rattle.names.specs.declared.name.Name.{Name}
use Rattle.names.specs.declared.name.Form.{Form}
use Rattle.names.specs.declared.name.Form.TheVariants.{Word, Entry, Quoted}
use Rattle.spans.specs.Span.{◌⋯◌}
use Rattle.nametable.specs.Table.{form_at, sep_at, bit_of, tag_of, row_name, row_put}

module _ (t : List ℕ) (k : ℕ) where
  pub row_is_lem : (a b c d v : ℕ) (f : Form) (s : Bool) → a ≡ get_or t (5 * k) 0 → b ≡ get_or t (5 * k + 1) 0 → c ≡ get_or t (5 * k + 2) 0 → d ≡ get_or t (5 * k + 3) 0 → v ≡ get_or t (5 * k + 4) 0 → f ≡ form_at v → s ≡ sep_at v → named (a ⋯ b) s (c ⋯ d) f ≡ row_name t k
  unfolding row_name
  row_is_lem a b c d v f s ea eb ec ed ev ef es = rw (ea, eb, ec, ed, ef, es, ev)

  pub put_is : (n : Name) (v : ℕ) → v ≡ tag_of n.form n.sep → set (set (set (set (set t (5 * k) n.scope.at) (5 * k + 1) n.scope.len) (5 * k + 2) n.word.at) (5 * k + 3) n.word.len) (5 * k + 4) v ≡ row_put t k n
  put_is n v e = rw e

module _ (b : ℕ) (form : Form) (sep : Bool) (e : b ≡ bit_of sep) where
  small : b ≤ 1
  small = go sep e
    where
      go : (s : Bool) → b ≡ bit_of s → b ≤ 1
      go true h = omega arith
      go false h = omega arith

  pub bit_four : 4 + b < 2 ^ 32
  bit_four = omega (arith, small)

  pub bit_two : 2 + b < 2 ^ 32
  bit_two = omega (arith, small)

  pub tag_word : form ≡ Word → b ≡ tag_of form sep
  tag_word h = rw h e

  pub tag_quoted : form ≡ Quoted → 4 + b ≡ tag_of form sep
  tag_quoted h = rw (h, e)

  pub tag_entry : form ≡ Entry → 2 + b ≡ tag_of form sep
  tag_entry h = rw (h, e)

pub ruleset tags = (rules, bit_four, bit_two, tag_word, tag_quoted, tag_entry)

pub ruleset puts = (rules, put_is)

pub ruleset reads = (rules, row_is_lem)
