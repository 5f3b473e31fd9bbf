-- The text of each port of a strategy like this one: laws as the needs ask them. Assumes nothing.
use Rattle.std.specs.Prelude.{Option}
use Rattle.store.specs.declared.state.Few.{Few}
use Prim.Native.Nat.{ℕ, suc, ◌+◌, ◌-◌, ◌≤◌, ◌<◌}
use native.Mathlib.Omega.{arith}
use mathlib.Core.Path.{◌≡◌, refl, sym, ap, ◌∙◌}
use mathlib.Core.Bool.{Bool, true, false, cond, not}
use mathlib.Core.List.{List, [], ◌∷◌}
use borrow.Author.Rules.{rules}
use Rattle.text.specs.Ascii.{Bytes, ascii}
use Rattle.out.specs.Emit.{Out, emit, emit_append}
use Rattle.out.specs.Fill.{fill, is_template}
use Rattle.out.specs.Items.{each}
use Rattle.design.specs.Lists.{those}
use Rattle.design.specs.Paths.{element_path}
use Rattle.refs.specs.Text.{text_of}
use Rattle.names.specs.declared.name.Name.{Name}
use Rattle.model.specs.Records.{Isolation as Isolationʳ}
use Rattle.model.specs.Commands.{or_else}
use Rattle.store.specs.Strings.{maybe_of}
use Rattle.store.specs.View.{isolation_of}
use Rattle.store.specs.declared.state.Isolation.{Isolation}
use Rattle.clamps.specs.Values.{stored_name, clamp_literal}
use Rattle.texts.specs.declared.Literal.{Literal}
use Rattle.texts.specs.Isolation.{lowered, is_clamp, active_of}
use Rattle.format.specs.Args.{rooted, arg_of, name_arg}
use Rattle.format.specs.declared.arg.Arg.{Arg}
use Rattle.isolated.specs.Table.{port_row, port_ref, net_ref, Kept, kept_of, kept_from, kept_in}
use Rattle.isolated.specs.Laws.{kept_next, kept_none}
use Rattle.isolated.specs.declared.Isolated.{Isolated}
use Rattle.alike.specs.Strategies.{strategy_at, signal_of, are_alike}
use Rattle.alike.specs.Ruled.{Ruled, row_small}
use Rattle.portargs.specs.Args.{net_arg, port_arg, literal_arg, signal_arg, active_arg, net_is_lem, port_is, clamp_is, strategy_is, signal_is, active_is}
use Rattle.processes.specs.Ports.{is_like, port_text, ports_text, head_text}
use Rattle.processes.proofs.Led.{number_small}

-- ---- the head

pub head_written : (job mem : Bytes) (scope : List Bytes) (top : Bytes) (t : Few Isolation) (i : ℕ) (a b : Arg) (o w : Out)
    → w ≡ emit o (fill (ascii "  always @({0}) begin\n    if ({0} === {1}) begin\n") (arg_of job mem scope top a) (arg_of job mem scope top b) [] [] [])
    → a ≡ signal_arg t i → b ≡ active_arg mem t i → w ≡ emit o (head_text scope (strategy_at mem t i))
unfolding head_text
head_written job mem scope top t i a b o w e ea eb =
    let p : arg_of job mem scope top a ≡ element_path scope (signal_of (strategy_at mem t i)) = rw ea (signal_is job mem scope top t i) in
    let q : arg_of job mem scope top b ≡ active_of (strategy_at mem t i) = rw eb (active_is job mem scope top t i) in
    e ∙ rw (p, q)

pub ruleset heads = (rules, head_written)

-- ---- a port

pub port_written : (job mem : Bytes) (scope : List Bytes) (top : Bytes) (s : Isolation) (x : Isolated) (tpl : Bytes) (a b c d : Arg) (k : Option Literal) (n : Name) (o w : Out)
    → w ≡ emit o (fill tpl (arg_of job mem scope top a) (arg_of job mem scope top b) (arg_of job mem scope top c) (arg_of job mem scope top d) [])
    → a ≡ net_arg x → b ≡ literal_arg k → k ≡ clamp_literal (lowered (or_else (maybe_of mem s.clamp) (ascii "0"))) → c ≡ name_arg n → n ≡ stored_name s.name → d ≡ port_arg x
    → is_clamp (lowered (isolation_of mem s).clamp) ≡ true → w ≡ emit o (port_text tpl scope top (λ (_ : ℕ). isolation_of mem s) (kept_of job mem x))
unfolding port_text isolation_of
port_written job mem scope top s x tpl a b c d k n o w e ea eb ek ec en ed h =
    let t : Few Isolation = record { n = 1; all = s ∷ [] } in
    let a' : arg_of job mem scope top a ≡ element_path scope (text_of job mem (net_ref x)) = rw ea (net_is_lem job mem scope top x) in
    let b' : arg_of job mem scope top b ≡ lowered (isolation_of mem s).clamp = rw (eb, ek) (clamp_is job mem scope top t 0 h) in
    let c' : arg_of job mem scope top c ≡ (isolation_of mem s).name = rw (ec, en) (strategy_is job mem scope top t 0) in
    let d' : arg_of job mem scope top d ≡ rooted top scope (text_of job mem (port_ref x)) = rw ed (port_is job mem scope top x) in
    e ∙ rw (a', b', c', d')

-- a port of strategy j
row_text : (tpl : Bytes) (scope : List Bytes) (top : Bytes) (f : ℕ → Isolationʳ) (job mem : Bytes) (x : Isolated) (j : ℕ) → j ≡ x.strategy → port_text tpl scope top (λ (_ : ℕ). f j) (kept_of job mem x) ≡ port_text tpl scope top f (kept_of job mem x)
unfolding port_text
row_text tpl scope top f job mem x j e = rw e

-- ---- each port: what is left to write, written from here, is the answer w

pub record Writes (job mem : Bytes) (scope : List Bytes) (top tpl : Bytes) (t : Few Isolation) (ports : List ℕ) (n i : ℕ) (w o : Out) (k s : ℕ) : Type 0 where
  pub template : is_template 4 tpl ≡ true
  pub ruled : Ruled mem t ports n
  pub number : i < 32
  pub before : k ≤ n
  pub unlike : s < 32 → are_alike (strategy_at mem t i) (strategy_at mem t s) ≡ false
  pub keeps : emit o (ports_text tpl scope top (strategy_at mem t) i (kept_from job mem ports k (n - k))) ≡ w

pub writes_start : (job mem : Bytes) (scope : List Bytes) (top tpl : Bytes) (t : Few Isolation) (ports : List ℕ) (n i : ℕ) (o : Out) → is_template 4 tpl ≡ true → Ruled mem t ports n → i < 32 → Writes job mem scope top tpl t ports n i (emit o (ports_text tpl scope top (strategy_at mem t) i (kept_in job mem ports n))) o 0 32
writes_start job mem scope top tpl t ports n i o a b c = let z : n - 0 ≡ n = omega arith in record { template = a; ruled = b; number = c; before = omega arith; unlike = λ h. absurd (omega (arith, h)); keeps = rw z }

module _ (job mem : Bytes) (scope : List Bytes) (top tpl : Bytes) (t : Few Isolation) (ports : List ℕ) (n i : ℕ) (w o : Out) (k s : ℕ) (inv : Writes job mem scope top tpl t ports n i w o k s) where
  pub writes_end : n ≤ k → o ≡ w
  unfolding ports_text those each emit
  writes_end h = let z : n - k ≡ 0 = omega arith in rw (z, kept_none job mem ports k) at inv.keeps

  pub writes_row : k < n → k < 256
  writes_row h = row_small mem t ports n inv.ruled k h

  pub writes_clamp : k < n → (j : ℕ) → j ≡ (port_row ports k).strategy → is_clamp (lowered (strategy_at mem t j).clamp) ≡ true
  writes_clamp h j e = rw e (inv.ruled.clamps k h)

  pub writes_numbered : k < n → (j : ℕ) → j ≡ (port_row ports k).strategy → j < 32
  writes_numbered h j e = number_small mem t ports n inv.ruled k h j e

  module _ (h : k < n) (j : ℕ) (e : j ≡ (port_row ports k).strategy) (b : Bool) (g : b ≡ are_alike (strategy_at mem t i) (strategy_at mem t j)) where
    opened : emit o (each (port_text tpl scope top (strategy_at mem t)) (cond b (kept_of job mem (port_row ports k) ∷ those (λ (y : Kept). is_like (strategy_at mem t) i y.strategy) (kept_from job mem ports (k + 1) (n - (k + 1)))) (those (λ (y : Kept). is_like (strategy_at mem t) i y.strategy) (kept_from job mem ports (k + 1) (n - (k + 1)))))) ≡ w
    unfolding ports_text those
    opened = let z : n - k ≡ suc (n - (k + 1)) = omega arith in rw (g, e) (rw (z, kept_next job mem ports k (n - (k + 1))) at inv.keeps)

    pub writes_other : not b ≡ true → Writes job mem scope top tpl t ports n i w o (k + 1) j
    unfolding ports_text
    writes_other d = record { template = inv.template; ruled = inv.ruled; number = inv.number; before = omega arith; unlike = λ l. sym g ∙ is_not b d; keeps = rw (is_not b d) at opened }
      where
        is_not : (b : Bool) → not b ≡ true → b ≡ false
        is_not true e = sym e
        is_not false e = refl

    pub writes_one : not b ≡ false → (x : Isolated) → x ≡ port_row ports k → (o' : Out) → o' ≡ emit o (port_text tpl scope top (λ (_ : ℕ). strategy_at mem t j) (kept_of job mem x)) → Writes job mem scope top tpl t ports n i w o' (k + 1) s
    unfolding ports_text each
    writes_one d x p o' q = record { template = inv.template; ruled = inv.ruled; number = inv.number; before = omega arith; unlike = inv.unlike; keeps = rw (q, p, row_text tpl scope top (strategy_at mem t) job mem (port_row ports k) j e) (rw (is_true b d, emit_append) at opened) }
      where
        is_true : (b : Bool) → not b ≡ false → b ≡ true
        is_true true e = refl
        is_true false e = sym e

  pub writes_skip : (h : k < n) (j : ℕ) → j ≡ (port_row ports k).strategy → j ≡ s → Writes job mem scope top tpl t ports n i w o (k + 1) s
  writes_skip h j e d =
      let l : s < 32 = rw d at (writes_numbered h j e) in
      let g : false ≡ are_alike (strategy_at mem t i) (strategy_at mem t j) = sym (ap (λ (m : ℕ). are_alike (strategy_at mem t i) (strategy_at mem t m)) d ∙ inv.unlike l) in
      rw d at (writes_other h j e false g refl)

pub ruleset writes = (rules, writes_row, writes_numbered, writes_clamp, writes_end, writes_other, writes_one, writes_skip)
