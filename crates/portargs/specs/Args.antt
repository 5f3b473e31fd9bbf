-- The arguments about isolated ports and their strategies, and what they stand for. Assumes nothing.
use Rattle.store.specs.declared.state.Few.{Few}
use Rattle.store.specs.declared.state.Isolation.{Isolation}
use Rattle.std.specs.Prelude.{ℕ, ◌≡◌, Bool, List, Option, Some, None}
use Rattle.std.proofs.Math.Path.{refl, sym, ap}
use Rattle.std.proofs.Common.{◌∙◌}
use Rattle.std.proofs.Math.Bool.{true, false, cond}
use Rattle.text.specs.Ascii.{Bytes, ascii}
use Rattle.text.specs.Compare.{same}
use Rattle.text.specs.Sames.{same_eq, no_true}
use Rattle.design.specs.Paths.{element_path}
use Rattle.refs.specs.Text.{text_of}
use Rattle.model.specs.Records.{Isolation as Isolationʳ}
use Rattle.store.specs.View.{isolation_of}
use Rattle.texts.specs.declared.Literal.{Literal}
use Rattle.texts.specs.Isolation.{lowered, is_clamp, active_of}
use Rattle.clamps.specs.Values.{stored_name, clamp_literal, is_low, active_literal}
use Rattle.clamps.specs.Laws.{stored_is}
use Rattle.format.specs.Args.{rooted, arg_of, wrapped_arg, name_arg, hier_arg, fixed_arg}
use Rattle.format.specs.Laws.{below_arg, rooted_arg, name_arg_lem, hier_arg_lem}
use Rattle.format.specs.declared.arg.Arg.{Arg}
use Rattle.format.specs.declared.arg.Wrap.{Wrap}
use Rattle.isolated.specs.Table.{port_ref, net_ref}
use Rattle.isolated.specs.declared.Isolated.{Isolated}
use Rattle.alike.specs.Strategies.{isolation_at, strategy_at, signal_name, signal_of}
use Rattle.alike.specs.Shown.{signal_text_lem}

abbrev pub net_arg : Isolated → Arg
net_arg x = wrapped_arg Wrap.Hier (net_ref x)

abbrev pub port_arg : Isolated → Arg
port_arg x = wrapped_arg Wrap.Rooted (port_ref x)

-- the literal of a clamp value; nothing where it is not simulated
abbrev pub literal_arg : Option Literal → Arg
literal_arg None = fixed_arg Wrap.Plain
literal_arg (Some k) = fixed_arg (Wrap.Literal k)

abbrev pub clamp_arg : Bytes → Few Isolation → ℕ → Arg
clamp_arg mem t i = literal_arg (clamp_literal (lowered (strategy_at mem t i).clamp))

abbrev pub strategy_arg : Few Isolation → ℕ → Arg
strategy_arg t i = name_arg (stored_name (isolation_at t i).name)

abbrev pub signal_arg : Few Isolation → ℕ → Arg
signal_arg t i = hier_arg (signal_name (isolation_at t i).signal)

abbrev pub active_arg : Bytes → Few Isolation → ℕ → Arg
active_arg mem t i = fixed_arg (Wrap.Literal (active_literal (is_low (lowered (strategy_at mem t i).sense))))

-- ---- what they stand for

module _ (job mem : Bytes) (scope : List Bytes) (top : Bytes) where
  pub net_is_lem : (x : Isolated) → arg_of job mem scope top (net_arg x) ≡ element_path scope (text_of job mem (net_ref x))
  net_is_lem x = below_arg job mem scope top (net_ref x)

  pub port_is : (x : Isolated) → arg_of job mem scope top (port_arg x) ≡ rooted top scope (text_of job mem (port_ref x))
  port_is x = rooted_arg job mem scope top (port_ref x)

  clamp_by : (c : Bytes) → is_clamp c ≡ true → arg_of job mem scope top (literal_arg (clamp_literal c)) ≡ c
  unfolding arg_of clamp_literal
  clamp_by c h = go (same c (ascii "0")) refl (same c (ascii "1")) refl (same c (ascii "z")) refl
    where
      go : (x : Bool) → same c (ascii "0") ≡ x → (y : Bool) → same c (ascii "1") ≡ y → (z : Bool) → same c (ascii "z") ≡ z → arg_of job mem scope top (literal_arg (cond x (Some Literal.Zero) (cond y (Some Literal.One) (cond z (Some Literal.Z) None)))) ≡ c
      go true e y f z g = sym (same_eq c (ascii "0") e)
      go false e true f z g = sym (same_eq c (ascii "1") f)
      go false e false f true g = sym (same_eq c (ascii "z") g)
      go false e false f false g = absurd (no_true (rw (e, f, g) at h))

  active_by : (i : Isolationʳ) → arg_of job mem scope top (fixed_arg (Wrap.Literal (active_literal (is_low (lowered i.sense))))) ≡ active_of i
  unfolding arg_of is_low
  active_by i = go (same (lowered i.sense) (ascii "low"))
    where
      go : (b : Bool) → arg_of job mem scope top (fixed_arg (Wrap.Literal (active_literal b))) ≡ cond b (ascii "1'b0") (ascii "1'b1")
      go true = refl
      go false = refl

  module _ (t : Few Isolation) (i : ℕ) where
    pub clamp_is : is_clamp (lowered (strategy_at mem t i).clamp) ≡ true → arg_of job mem scope top (clamp_arg mem t i) ≡ lowered (strategy_at mem t i).clamp
    clamp_is h = clamp_by (lowered (strategy_at mem t i).clamp) h

    pub strategy_is : arg_of job mem scope top (strategy_arg t i) ≡ (strategy_at mem t i).name
    unfolding isolation_of
    strategy_is = name_arg_lem job mem scope top (stored_name (isolation_at t i).name) ∙ stored_is mem (isolation_at t i).name

    pub signal_is : arg_of job mem scope top (signal_arg t i) ≡ element_path scope (signal_of (strategy_at mem t i))
    unfolding isolation_of
    signal_is = hier_arg_lem job mem scope top (signal_name (isolation_at t i).signal) ∙ ap (element_path scope) (signal_text_lem mem (isolation_at t i).signal)

    pub active_is : arg_of job mem scope top (active_arg mem t i) ≡ active_of (strategy_at mem t i)
    active_is = active_by (strategy_at mem t i)
