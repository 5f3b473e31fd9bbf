-- Texts of nets: laws as the needs ask them. Assumes nothing.
use Prim.Native.Nat.{ℕ, suc, ◌+◌, ◌-◌, ◌≤◌, ◌<◌}
use native.Mathlib.Omega.{arith}
use mathlib.Core.Path.{◌≡◌, sym, ap, ◌∙◌}
use mathlib.Core.List.{List, [], ◌∷◌}
use Rattle.text.specs.Ascii.{Bytes}
use Rattle.out.specs.Emit.{Out, emit, emit_append}
use Rattle.out.specs.Bytewise.{dotted}
use Rattle.out.specs.Fill.{fill}
use Rattle.out.specs.Items.{each, each_cons, each_none}
use Rattle.names.specs.Name.{name_of}
use Rattle.names.specs.declared.name.Name.{Name}
use Rattle.nametable.specs.Table.{row_name, names_from, table_names, names_next, names_none}
use Rattle.refs.specs.Text.{whole_ref}
use Rattle.refs.specs.declared.Ref.{Ref}
use Rattle.texts.specs.Supplies.{unrooted, net_block, net_blocks, supply_nets}
use Rattle.model.specs.Records.{no_records, with_nets}
use Rattle.format.specs.declared.arg.Wrap.{Wrap}
use Rattle.format.specs.Args.{arg_of, rooted, wrapped_arg, name_arg, fixed_arg}
use Rattle.format.specs.Laws.{name_arg_lem, rooted_name, dots_name, top_arg}
use Rattle.format.specs.declared.arg.Arg.{Arg}
use Rattle.supplies.specs.Seen.{case_of, nets_setting, nets_only}

-- ---- one net

module _ (job mem : Bytes) (scope : List Bytes) (top t : Bytes) (o o' : Out) (n : Name) (a b : Arg) (w : Ref) (ea : a ≡ name_arg n) (eb : b ≡ wrapped_arg Wrap.Rooted w) (ew : w ≡ whole_ref n) where
  path_is : arg_of job mem scope top b ≡ rooted top scope (name_of mem n)
  path_is = rw (eb, ew) (rooted_name job mem scope top n)

  name_is : arg_of job mem scope top a ≡ name_of mem n
  name_is = rw ea (name_arg_lem job mem scope top n)

  pub block_is : o' ≡ emit o (fill t (arg_of job mem scope top a) (arg_of job mem scope top b) [] [] []) → o' ≡ emit o (fill t (name_of mem n) (rooted top scope (name_of mem n)) [] [] [])
  block_is e = rw (name_is, path_is) at e

  pub case_is : (c d : Arg) (v : Ref) → o' ≡ emit o (fill t (arg_of job mem scope top a) (arg_of job mem scope top b) (arg_of job mem scope top c) (arg_of job mem scope top d) []) → c ≡ wrapped_arg Wrap.Dots v → v ≡ whole_ref n → d ≡ fixed_arg Wrap.Top → o' ≡ emit o (case_of t top scope (name_of mem n))
  case_is c d v e ec ev ed =
      let x : arg_of job mem scope top c ≡ dotted (unrooted (rooted top scope (name_of mem n))) = rw (ec, ev) (dots_name job mem scope top n) in
      let y : arg_of job mem scope top d ≡ top = rw ed (top_arg job mem scope top _) in
      rw (name_is, path_is, x, y) at e

-- ---- a text for each name of a table

pub record Each (f : Bytes → Bytes) (mem : Bytes) (table : List ℕ) (n : ℕ) (w o : Out) (k : ℕ) : Type 0 where
  pub keeps : emit o (each f (names_from mem table k (n - k))) ≡ w

pub each_start : (f : Bytes → Bytes) (mem : Bytes) (table : List ℕ) (n : ℕ) (o : Out) → Each f mem table n (emit o (each f (table_names mem table n))) o 0
each_start f mem table n o = let e : n - 0 ≡ n = omega arith in record { keeps = rw e }

module _ (f : Bytes → Bytes) (mem : Bytes) (table : List ℕ) (n : ℕ) (w o : Out) (k : ℕ) (inv : Each f mem table n w o k) where
  pub each_next : (x : Name) (o' : Out) → o' ≡ emit o (f (name_of mem x)) → x ≡ row_name table k → k < n → Each f mem table n w o' (k + 1)
  each_next x o' e ex h =
      let z : n - k ≡ suc (n - (k + 1)) = omega arith in
      let l : names_from mem table k (n - k) ≡ name_of mem x ∷ names_from mem table (k + 1) (n - (k + 1)) = rw (z, ex) (names_next mem table k (n - (k + 1))) in
      record { keeps = rw e (sym (ap (emit o) (each_cons f (name_of mem x) (names_from mem table (k + 1) (n - (k + 1)))) ∙ emit_append o (f (name_of mem x)) (each f (names_from mem table (k + 1) (n - (k + 1))))) ∙ (rw l at inv.keeps)) }

  pub each_done : n ≤ k → o ≡ w
  each_done h = let z : names_from mem table k (n - k) ≡ [] = let y : n - k ≡ 0 = omega arith in rw y (names_none mem table k) in sym (each_none f o) ∙ (rw z at inv.keeps)

pub blocks_start : (top : Bytes) (scope : List Bytes) (mem : Bytes) (table : List ℕ) (n : ℕ) (o : Out) → Each (net_block (nets_setting top scope [])) mem table n (emit o (net_blocks (nets_setting top scope (table_names mem table n)))) o 0
blocks_start top scope mem table n o = rw (nets_only (table_names mem table n)) (each_start (net_block (nets_setting top scope [])) mem table n o)

pub cases_are : (f : Bytes → Bytes) (l : List Bytes) (o o' : Out) → o' ≡ emit o (each f l) → o' ≡ emit o (each f (supply_nets (with_nets no_records l)))
cases_are f l o o' e = rw (nets_only l) e
