-- A strategy: each law is stated as a need asks it. Assumes nothing.
use Rattle.std.specs.Prelude.{Option}
use Prim.Native.Nat.{ℕ, ◌+◌}
use native.Mathlib.Omega.{arith}
use mathlib.Core.Path.{◌≡◌, refl, sym, ap, ◌∙◌}
use mathlib.Core.Bool.{Bool, true, false}
use mathlib.Core.List.{List, [], ◌++◌, append-nil}
use borrow.Author.Rules.{rules}
use Rattle.text.specs.Ascii.{Bytes, ascii}
use Rattle.text.specs.Sames.{no_true}
use Rattle.out.specs.Emit.{Out, ◌▸◌, emit, emit_append}
use Rattle.names.specs.Name.{name_of}
use Rattle.names.specs.declared.name.Name.{Name}
use Rattle.model.specs.Commands.{or_else}
use Rattle.store.specs.Strings.{string, maybe_of}
use Rattle.store.specs.View.{isolation_of}
use Rattle.store.specs.declared.stored.Stored.{Stored}
use Rattle.store.specs.declared.state.Isolation.{Isolation}
use Rattle.texts.specs.Isolation.{isolation_line}
use Rattle.isolated.specs.Table.{Kept, kept_in}
use Rattle.keep.specs.Gains.{Aim, gains}
use Rattle.keep.specs.Covered.{counted, said_by, said, Answer}
use Rattle.keep.specs.Turns.{said_behind}
use Rattle.keep.specs.declared.Cover.{Cover}
use Rattle.cover.specs.Found.{Asks}
use Rattle.cover.specs.declared.Strategy.{Strategy}
use Rattle.clamps.specs.Values.{stored_name}
use Rattle.clamps.specs.Laws.{stored_is}
use Rattle.remarks.specs.Lines.{strategy_line, Lined}
use Rattle.strategies.specs.Gains.{line_gain, covered_gain}
use Rattle.strategies.specs.Values.{given_name, strategy_of}

pub numbered : (n : ℕ) (x : Isolation) (r : Name) → r ≡ stored_name x.name → ◌≡◌ {A = Strategy} (record { number = n; name = r }) (strategy_of n x)
numbered n x r e = rw e

pub ruleset givens = (rules, numbered)

-- ---- with these elements

module _ (job mem : Bytes) (warn : Bool) (c : Cover) (out : Bytes) (number : ℕ) (x : Isolation) (signal : Name) (ps : List Aim) (l : List Kept) (s : Strategy) (es : s ≡ strategy_of number x)
    (a : Cover) (out₁ : Bytes) (t : List ℕ) (ans : Answer job mem warn c out (gains s.number (name_of mem s.name) ps l) a out₁ t) where
  abbrev own : Bytes
  own = (isolation_of mem x).name

  own_is : name_of mem (stored_name x.name) ≡ (isolation_of mem x).name
  unfolding isolation_of
  own_is = stored_is mem x.name

  gained : Answer job mem warn c out (gains number (isolation_of mem x).name ps l) a out₁ t
  gained = let b : Answer job mem warn c out (gains number (name_of mem (stored_name x.name)) ps l) a out₁ t = rw es at ans in rw own_is at b

  pub elements_over : a.over ≡ true → Answer job mem warn c out (covered_gain number (isolation_of mem x) (name_of mem signal) ps l) a out₁ t
  unfolding covered_gain
  elements_over h =
      record {
        ready = λ n. absurd (no_true (sym n ∙ h));
        rows = λ n. absurd (no_true (sym n ∙ h));
        warnings = λ n. absurd (no_true (sym n ∙ h));
        text = λ n. absurd (no_true (sym n ∙ h));
        refused = λ n. gained.refused h;
      }

  line_is_lem : strategy_line (string mem x.name) (string mem x.domain) (or_else (maybe_of mem x.clamp) (ascii "0")) (name_of mem signal) (or_else (maybe_of mem x.sense) (ascii "high")) ≡ isolation_line (isolation_of mem x) (name_of mem signal)
  unfolding isolation_of
  line_is_lem = refl

  pub elements_line : a.over ≡ false → (r : Cover) (out₂ : Bytes)
      → Lined warn (strategy_line (string mem x.name) (string mem x.domain) (or_else (maybe_of mem x.clamp) (ascii "0")) (name_of mem signal) (or_else (maybe_of mem x.sense) (ascii "high"))) a out₁ r out₂
      → Answer job mem warn c out (covered_gain number (isolation_of mem x) (name_of mem signal) ps l) r out₂ t
  unfolding covered_gain
  elements_line h r out₂ m =
      let g = gains number (isolation_of mem x).name ps l in
      let w = isolation_line (isolation_of mem x) (name_of mem signal) in
      let v : r.over ≡ false = ap (λ (y : Cover). y.over) m.is ∙ h in
      let p : r.ports ≡ a.ports = ap (λ (y : Cover). y.ports) m.is in
      let q : r.warnings ≡ a.warnings = ap (λ (y : Cover). y.warnings) m.is in
      let ready = gained.ready h in
      record {
        ready = λ n. record { going = v; few = omega (arith, p, ready.few); long = ready.long };
        rows = λ n. ap (kept_in job mem t) p ∙ gained.rows h;
        warnings = λ n. q ∙ gained.warnings h ∙ nothing_more c.warnings g.remarks;
        text =
            λ n.
            m.text
            ∙ ap (λ (y : Bytes). emit (out₁ ▸ a.at) (said_by warn y [])) line_is_lem
            ∙ ap (λ (o : Out). emit o (said_by warn w [])) (gained.text h)
            ∙ sym (emit_append (out ▸ c.at) (said warn g) (said_by warn w []))
            ∙ ap (emit (out ▸ c.at)) (sym (said_behind warn g (line_gain w g.rows)));
        refused = λ n. absurd (no_true (sym v ∙ n));
      }
    where
      nothing_more : (k : ℕ) (ws : List Bytes) → counted k ws ≡ counted k (ws ++ [])
      nothing_more k ws = rw (append-nil ws)

pub elements_asked : (job files area : Bytes) (count k number : ℕ) (x : Isolation) (s : Strategy) → s ≡ strategy_of number x → Asks job files area count k number → Asks job files area count k s.number
elements_asked job files area count k number x s e a = rw e a
