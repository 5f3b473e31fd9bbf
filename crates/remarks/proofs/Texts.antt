-- Texts of the report: each law is stated as a need asks it. Assumes nothing.
use Rattle.std.specs.Prelude.{Option, Some, None}
use Prim.Native.Nat.{ℕ}
use mathlib.Core.Path.{◌≡◌, refl, sym, ap, ◌∙◌}
use mathlib.Core.Bool.{Bool, true, false, not}
use mathlib.Core.List.{List, [], ◌∷◌, ◌++◌, append_assoc}
use borrow.Author.Rules.{rules}
use borrow.Author.Tests.{not-false}
use Rattle.text.specs.Ascii.{Bytes, ascii}
use Rattle.out.specs.Emit.{Out, ◌▸◌, emit, emit_append}
use Rattle.out.specs.Fill.{fill, filled, adds, turns, arg, pick}
use Rattle.out.specs.Items.{each}
use Rattle.names.specs.Name.{name_of}
use Rattle.names.specs.declared.name.Name.{Name}
use Rattle.model.specs.Commands.{or_else}
use Rattle.store.specs.Strings.{string, maybe_of}
use Rattle.store.specs.declared.stored.Stored.{Stored}
use Rattle.store.specs.declared.state.Isolation.{Isolation}
use Rattle.texts.specs.Isolation.{lowered}
use Rattle.texts.specs.Texts.{warning_line}
use Rattle.texts.specs.Laws.{one_warning}
use Rattle.clamps.specs.Values.{stored_name}
use Rattle.clamps.specs.Laws.{stored_is}
use Rattle.format.specs.declared.arg.Wrap.{Wrap}
use Rattle.texts.specs.declared.Literal.{Literal}
use Rattle.format.specs.Args.{arg_of, name_arg, fixed_arg}
use Rattle.format.specs.Laws.{name_arg_lem}
use Rattle.format.specs.declared.arg.Arg.{Arg}
use Rattle.keep.specs.Covered.{warned_cover, Remarked}
use Rattle.keep.specs.Warned.{ends, warned_line, not_warned}
use Rattle.keep.specs.declared.Cover.{Cover}
use Rattle.remarks.specs.Lines.{no_signal, unknown_domain, not_outputs, clamp_unknown, strategy_line, or_arg, Lined}

-- ---- warnings

-- ---- a text over a buffer

module _ (warn : Bool) (c : Cover) (out : Bytes) where
  -- a line that was written
  written : (w : Bytes) (out' : Bytes) (o : ℕ) (r : Cover) → out' ▸ o ≡ emit (out ▸ c.at) (warning_line w) → r ≡ warned_cover c o → not warn ≡ false → Remarked warn w c out r out'
  written w out' o r e h k =
      let z : out' ▸ o ≡ emit (out ▸ c.at) (each warning_line (w ∷ [])) = e ∙ ap (emit (out ▸ c.at)) (sym (one_warning w)) in
      record { is = rw h; text = rw (h, not-false warn k) z }

  -- by its template
  templated : (t a b : Bytes) → ends 0 t ≡ 0 → (out' : Bytes) (o : ℕ) (r : Cover) → out' ▸ o ≡ emit (out ▸ c.at) (fill (ascii "warning: " ++ (t ++ ascii "\n")) a b [] [] []) → r ≡ warned_cover c o → not warn ≡ false → Remarked warn (fill t a b [] [] []) c out r out'
  templated t a b n out' o r e h k = written (fill t a b [] [] []) out' o r (e ∙ ap (emit (out ▸ c.at)) (warned_line t a b [] [] [] n)) h k

  module _ (job mem : Bytes) (scope : List Bytes) (top : Bytes) (n : Name) (a : Arg) (ea : a ≡ name_arg n) (out' : Bytes) (o : ℕ) (r : Cover) (er : r ≡ warned_cover c o) (k : not warn ≡ false) where
    arg_is : arg_of job mem scope top a ≡ name_of mem n
    arg_is = ap (arg_of job mem scope top) ea ∙ name_arg_lem job mem scope top n

    pub signal_warned : out' ▸ o ≡ emit (out ▸ c.at) (fill (ascii "warning: isolation strategy '{0}' has no -isolation_signal; not simulated\n") (arg_of job mem scope top a) [] [] [] []) → Remarked warn (no_signal (name_of mem n)) c out r out'
    unfolding turns
    signal_warned e = templated (ascii "isolation strategy '{0}' has no -isolation_signal; not simulated") (name_of mem n) [] refl out' o r (rw arg_is at e) er k

    module _ (d : Name) (b : Arg) (eb : b ≡ name_arg d) where
      other_is : arg_of job mem scope top b ≡ name_of mem d
      other_is = ap (arg_of job mem scope top) eb ∙ name_arg_lem job mem scope top d

      pub domain_warned : out' ▸ o ≡ emit (out ▸ c.at) (fill (ascii "warning: isolation strategy '{0}': unknown domain '{1}'\n") (arg_of job mem scope top a) (arg_of job mem scope top b) [] [] []) → Remarked warn (unknown_domain (name_of mem n) (name_of mem d)) c out r out'
      unfolding turns
      domain_warned e = templated (ascii "isolation strategy '{0}': unknown domain '{1}'") (name_of mem n) (name_of mem d) refl out' o r (rw (arg_is, other_is) at e) er k

      pub outputs_warned : out' ▸ o ≡ emit (out ▸ c.at) (fill (ascii "warning: isolation strategy '{0}': -applies_to {1} not simulated (outputs only)\n") (arg_of job mem scope top a) (arg_of job mem scope top b) [] [] []) → Remarked warn (not_outputs (name_of mem n) (name_of mem d)) c out r out'
      unfolding turns
      outputs_warned e = templated (ascii "isolation strategy '{0}': -applies_to {1} not simulated (outputs only)") (name_of mem n) (name_of mem d) refl out' o r (rw (arg_is, other_is) at e) er k

  pub clamp_warned : (w : Bytes) (out' : Bytes) (o : ℕ) (r : Cover) → out' ▸ o ≡ emit (out ▸ c.at) (warning_line w) → r ≡ warned_cover c o → not warn ≡ false → Remarked warn w c out r out'
  clamp_warned w out' o r e h k = written w out' o r e h k

pub ruleset warns = (rules, not_warned, signal_warned, domain_warned, outputs_warned, clamp_warned)

-- ---- the clamp value, written in pieces

whole_line : (n v : Bytes) → fill (ascii "warning: isolation strategy '{0}': clamp value '{1}' not simulated\n") n v [] [] [] ≡ fill (ascii "warning: isolation strategy '{0}': clamp value '") n [] [] [] [] ++ (v ++ ascii "' not simulated\n")
unfolding fill filled adds turns arg pick
whole_line n v = ap (λ (l : Bytes). ascii "warning: isolation strategy '" ++ l) (sym (append_assoc n (ascii "': clamp value '") (v ++ ascii "' not simulated\n")))

pieces : (n v : Bytes) → fill (ascii "warning: isolation strategy '{0}': clamp value '") n [] [] [] [] ++ (v ++ ascii "' not simulated\n") ≡ warning_line (clamp_unknown n v)
unfolding turns
pieces n v = sym (whole_line n v) ∙ warned_line (ascii "isolation strategy '{0}': clamp value '{1}' not simulated") n v [] [] [] refl

pub unknown_written : (job mem : Bytes) (scope : List Bytes) (top : Bytes) (n v : Name) (a : Arg) (o₀ o₁ o₂ o₃ : Out)
    → o₃ ≡ emit o₂ (ascii "' not simulated\n") → o₂ ≡ emit o₁ (lowered (name_of mem v)) → o₁ ≡ emit o₀ (fill (ascii "warning: isolation strategy '{0}': clamp value '") (arg_of job mem scope top a) [] [] [] []) → a ≡ name_arg n
    → o₃ ≡ emit o₀ (warning_line (clamp_unknown (name_of mem n) (lowered (name_of mem v))))
unknown_written job mem scope top n v a o₀ o₁ o₂ o₃ e f g h =
    let s : arg_of job mem scope top a ≡ name_of mem n = ap (arg_of job mem scope top) h ∙ name_arg_lem job mem scope top n in
    let t = fill (ascii "warning: isolation strategy '{0}': clamp value '") (name_of mem n) [] [] [] [] in
    let z : o₁ ≡ emit o₀ t = rw s at g in
    let y : o₂ ≡ emit o₀ (t ++ lowered (name_of mem v)) = f ∙ ap (λ (o : Out). emit o (lowered (name_of mem v))) z ∙ sym (emit_append o₀ t (lowered (name_of mem v))) in
    let x : o₃ ≡ emit o₀ ((t ++ lowered (name_of mem v)) ++ ascii "' not simulated\n") = e ∙ ap (λ (o : Out). emit o (ascii "' not simulated\n")) y ∙ sym (emit_append o₀ (t ++ lowered (name_of mem v)) (ascii "' not simulated\n")) in
    x ∙ ap (emit o₀) (append_assoc t (lowered (name_of mem v)) (ascii "' not simulated\n") ∙ pieces (name_of mem n) (lowered (name_of mem v)))

pub ruleset unknowns = (rules, unknown_written)

-- ---- the line

pub or_not : (m : Option Stored) (k : Literal) (r : Arg) → r ≡ fixed_arg (Wrap.Literal k) → m ≡ None → r ≡ or_arg m k
or_not m k r e h = rw h e

pub or_given : (m : Option Stored) (k : Literal) (s : Stored) (n : Name) (r : Arg) → r ≡ name_arg n → n ≡ stored_name s → m ≡ Some s → r ≡ or_arg m k
or_given m k s n r e f h = rw (h, ← f) e

pub ruleset ors = (rules, or_not, or_given)

module _ (job mem : Bytes) (scope : List Bytes) (top : Bytes) where
  or_zero : (m : Option Stored) → arg_of job mem scope top (or_arg m Literal.Zero) ≡ or_else (maybe_of mem m) (ascii "0")
  unfolding arg_of
  or_zero None = refl
  or_zero (Some s) = name_arg_lem job mem scope top (stored_name s) ∙ stored_is mem s

  or_high : (m : Option Stored) → arg_of job mem scope top (or_arg m Literal.High) ≡ or_else (maybe_of mem m) (ascii "high")
  unfolding arg_of
  or_high None = refl
  or_high (Some s) = name_arg_lem job mem scope top (stored_name s) ∙ stored_is mem s

  name_of_lem : (s : Stored) (n : Name) (a : Arg) → a ≡ name_arg n → n ≡ stored_name s → arg_of job mem scope top a ≡ string mem s
  name_of_lem s n a e f = ap (arg_of job mem scope top) e ∙ name_arg_lem job mem scope top n ∙ ap (name_of mem) f ∙ stored_is mem s

  pub line_written : (x : Isolation) (signal : Name) (o o' : Out) (a b c d e : Arg) (n m : Name)
      → o' ≡ emit o (fill (ascii "isolation {0} on {1}: clamp {2} control {3} sense {4}\n") (arg_of job mem scope top a) (arg_of job mem scope top b) (arg_of job mem scope top c) (arg_of job mem scope top d) (arg_of job mem scope top e))
      → a ≡ name_arg n → n ≡ stored_name x.name → b ≡ name_arg m → m ≡ stored_name x.domain → c ≡ or_arg x.clamp Literal.Zero → d ≡ name_arg signal → e ≡ or_arg x.sense Literal.High
      → o' ≡ emit o (strategy_line (string mem x.name) (string mem x.domain) (or_else (maybe_of mem x.clamp) (ascii "0")) (name_of mem signal) (or_else (maybe_of mem x.sense) (ascii "high")))
  line_written x signal o o' a b c d e n m w ea en eb em ec ed ee =
      let p : arg_of job mem scope top a ≡ string mem x.name = name_of_lem x.name n a ea en in
      let q : arg_of job mem scope top b ≡ string mem x.domain = name_of_lem x.domain m b eb em in
      let r : arg_of job mem scope top c ≡ or_else (maybe_of mem x.clamp) (ascii "0") = ap (arg_of job mem scope top) ec ∙ or_zero x.clamp in
      let s : arg_of job mem scope top d ≡ name_of mem signal = ap (arg_of job mem scope top) ed ∙ name_arg_lem job mem scope top signal in
      let t : arg_of job mem scope top e ≡ or_else (maybe_of mem x.sense) (ascii "high") = ap (arg_of job mem scope top) ee ∙ or_high x.sense in
      rw (p, q, r, s, t) at w

pub ruleset lines = (rules, line_written)

module _ (warn : Bool) (t : Bytes) (c : Cover) (out : Bytes) where
  pub line_none : warn ≡ true → Lined warn t c out c out
  unfolding emit each
  line_none h = record { is = refl; text = rw h }

  pub line_put : (out' : Bytes) (o : ℕ) → out' ▸ o ≡ emit (out ▸ c.at) t → warn ≡ false → Lined warn t c out (record { over = c.over; ports = c.ports; warnings = c.warnings; at = o }) out'
  line_put out' o e h = record { is = refl; text = rw h e }

pub ruleset lineds = (rules, line_none, line_put)
