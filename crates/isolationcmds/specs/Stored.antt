-- Laws: what the code makes of the words stands for the strategies of the definitions. Assumes nothing.
use Rattle.std.specs.Prelude.{ℕ, suc, ◌+◌, ◌≤◌, ◌<◌, ◌^◌, ◌≡◌, refl, Bool, true, ltb, Option, None, Some}
use Rattle.std.proofs.Common.{arith, ◌∙◌, ltb-true, ltb-false}
use Rattle.std.proofs.Math.Nat.{le_trans}
use Rattle.std.proofs.Math.Path.{sym, ap}
use Rattle.std.proofs.Math.Bool.{false}
use mathlib.Core.List.{List, [], ◌∷◌, ◌++◌, map}
use Rattle.std.proofs.Math.ListN.{length}
use Rattle.text.specs.Ascii.{Bytes, ascii}
use Rattle.text.specs.Compare.{same}
use Rattle.text.specs.Sames.{differ}
use Rattle.text.specs.Lists.{no_bytes}
use Rattle.spans.specs.Span.{◌⋯◌, bytes, found_of, pairs}
use Rattle.spans.specs.Reach.{span_end, last_of, reach, Held, held_by, none_reach}
use Rattle.spans.specs.declared.span.Span.{Span}
use Rattle.tcl.specs.Arguments.{option_of, name_of}
use Rattle.tcl.specs.Lists.{list}
use Rattle.args.specs.View.{words_from, Reads, Finds}
use Rattle.model.specs.Scope.{scoped}
use Rattle.model.specs.Commands.{or_else, given, option_list, list_of}
use Rattle.store.specs.Strings.{string, span_of, stored_of, maybe_of, maybe_found, found_or, found_else}
use Rattle.store.specs.View.{list_below, isolation_of}
use Rattle.store.specs.Order.{of_maybe}
use Rattle.store.specs.declared.stored.Stored.{Stored}
use Rattle.store.specs.declared.state.Isolation.{Isolation}
use Rattle.made.specs.Asked.{list_found, or_found, maybe_found_lem, found_by_lem, maybe_by}
use Rattle.lists.specs.Values.{Whole}
use Rattle.isolationcmds.specs.Strategies.{new_strategy, renewed, elements_anew, is_strategy_at, IsolationIs, RenewedIs, AnewIs, ControlledIs}
use Rattle.isolationcmds.specs.Bounds.{Bounds, all_bounds, bounds_of}

module _ (mem : Bytes) (words : List ℕ) (n : ℕ) where
  -- what is given, or what stood there
  else_found : (t : Option Bytes) (f : Option Span) (old : Option Stored) → Finds mem words n t f → maybe_of mem (found_else f old) ≡ given t (maybe_of mem old)
  else_found t None old a = rw (← a.is)
  else_found t (Some s) old a = rw (← a.is)

  -- the same where nothing given means z
  else_or : (t : Option Bytes) (f : Option Span) (old : Option Stored) (z : Bytes) → Finds mem words n t f → or_else (maybe_of mem (found_else f old)) z ≡ or_else t (or_else (maybe_of mem old) z)
  else_or t None old z a = rw (← a.is)
  else_or t (Some s) old z a = rw (← a.is)

  else_by : (e : Span → ℕ) → e (0 ⋯ 0) ≡ 0 → (m : ℕ) → last_of e (pairs words 0 n) ≤ m → (t : Option Bytes) (f : Option Span) (old : Option Stored) → Finds mem words n t f → of_maybe (λ s. e (span_of s)) old ≤ m → of_maybe (λ s. e (span_of s)) (found_else f old) ≤ m
  else_by e z m l t None old a h = h
  else_by e z m l t (Some s) old a h = omega (arith, a.within e z)

  abbrev ws : List Bytes
  ws = words_from mem words n 1

  -- ---- a new one
  module _ (scope : Stored) (named : Span) (domain applies elements clamp signal sense power ground_net : Option Span)
      (a0 : Reads mem words n (name_of (words_from mem words n 1)) named)
      (a1 : Finds mem words n (option_of (ascii "-domain") (words_from mem words n 1)) domain)
      (a2 : Finds mem words n (option_of (ascii "-applies_to") (words_from mem words n 1)) applies)
      (a3 : Finds mem words n (option_of (ascii "-elements") (words_from mem words n 1)) elements)
      (a4 : Finds mem words n (option_of (ascii "-clamp_value") (words_from mem words n 1)) clamp)
      (a5 : Finds mem words n (option_of (ascii "-isolation_signal") (words_from mem words n 1)) signal)
      (a6 : Finds mem words n (option_of (ascii "-isolation_sense") (words_from mem words n 1)) sense)
      (a7 : Finds mem words n (option_of (ascii "-isolation_power_net") (words_from mem words n 1)) power)
      (a8 : Finds mem words n (option_of (ascii "-isolation_ground_net") (words_from mem words n 1)) ground_net) where
    abbrev made : Isolation
    made = record { name = stored_of named; domain = found_or domain; applies = maybe_found applies; scope = scope; elements = found_or elements; clamp = maybe_found clamp; signal = maybe_found signal; sense = maybe_found sense; power = maybe_found power; ground_net = maybe_found ground_net }

    pub isolation_is : IsolationIs mem words n scope made
    unfolding isolation_of new_strategy
    isolation_is =
        record {
          is = λ i. record {
            name = a0.is i;
            domain = or_found mem words n (option_of (ascii "-domain") ws) domain a1 i;
            applies_to = maybe_found_lem mem words n (option_of (ascii "-applies_to") ws) applies a2 i;
            elements = map (scoped (string mem scope)) (list_found mem words n (option_of (ascii "-elements") ws) elements a3 i);
            clamp = or_else (maybe_found_lem mem words n (option_of (ascii "-clamp_value") ws) clamp a4 i) (ascii "0");
            signal = maybe_found_lem mem words n (option_of (ascii "-isolation_signal") ws) signal a5 i;
            sense = or_else (maybe_found_lem mem words n (option_of (ascii "-isolation_sense") ws) sense a6 i) (ascii "high");
            power = maybe_found_lem mem words n (option_of (ascii "-isolation_power_net") ws) power a7 i;
            ground_net = maybe_found_lem mem words n (option_of (ascii "-isolation_ground_net") ws) ground_net a8 i;
          };
          within = λ e z m h l. all_bounds (λ s. e (span_of s)) made m
              (record {
                name = le_trans (a0.within e z) l;
                domain = le_trans (found_by_lem mem words n e z (option_of (ascii "-domain") ws) domain a1) l;
                applies = le_trans (maybe_by mem words n e z (option_of (ascii "-applies_to") ws) applies a2) l;
                scope = h;
                elements = le_trans (found_by_lem mem words n e z (option_of (ascii "-elements") ws) elements a3) l;
                clamp = le_trans (maybe_by mem words n e z (option_of (ascii "-clamp_value") ws) clamp a4) l;
                signal = le_trans (maybe_by mem words n e z (option_of (ascii "-isolation_signal") ws) signal a5) l;
                sense = le_trans (maybe_by mem words n e z (option_of (ascii "-isolation_sense") ws) sense a6) l;
                power = le_trans (maybe_by mem words n e z (option_of (ascii "-isolation_power_net") ws) power a7) l;
                ground_net = le_trans (maybe_by mem words n e z (option_of (ascii "-isolation_ground_net") ws) ground_net a8) l;
              });
        }

    -- as the code has them
    pub isolation_made : (n0 d0 e0 : Stored) (p0 c0 s0 t0 w0 g0 : Option Stored) → n0 ≡ stored_of named → d0 ≡ found_or domain → p0 ≡ maybe_found applies → e0 ≡ found_or elements → c0 ≡ maybe_found clamp → s0 ≡ maybe_found signal → t0 ≡ maybe_found sense → w0 ≡ maybe_found power → g0 ≡ maybe_found ground_net → IsolationIs mem words n scope (record { name = n0; domain = d0; applies = p0; scope = scope; elements = e0; clamp = c0; signal = s0; sense = t0; power = w0; ground_net = g0 })
    isolation_made n0 d0 e0 p0 c0 s0 t0 w0 g0 q0 q1 q2 q3 q4 q5 q6 q7 q8 = rw (q0, q1, q2, q3, q4, q5, q6, q7, q8) isolation_is

  -- ---- one renewed
  module _ (x : Isolation) (scope elements : Stored) (applies clamp signal sense power ground_net : Option Span)
      (a2 : Finds mem words n (option_of (ascii "-applies_to") (words_from mem words n 1)) applies)
      (a4 : Finds mem words n (option_of (ascii "-clamp_value") (words_from mem words n 1)) clamp)
      (a5 : Finds mem words n (option_of (ascii "-isolation_signal") (words_from mem words n 1)) signal)
      (a6 : Finds mem words n (option_of (ascii "-isolation_sense") (words_from mem words n 1)) sense)
      (a7 : Finds mem words n (option_of (ascii "-isolation_power_net") (words_from mem words n 1)) power)
      (a8 : Finds mem words n (option_of (ascii "-isolation_ground_net") (words_from mem words n 1)) ground_net) where
    abbrev again : Isolation
    again = record { name = x.name; domain = x.domain; applies = found_else applies x.applies; scope = scope; elements = elements; clamp = found_else clamp x.clamp; signal = found_else signal x.signal; sense = found_else sense x.sense; power = found_else power x.power; ground_net = found_else ground_net x.ground_net }

    pub renewed_is : RenewedIs mem words n x scope elements again
    unfolding isolation_of renewed
    renewed_is =
        record {
          is = λ i. record {
            name = string mem x.name;
            domain = string mem x.domain;
            applies_to = else_found (option_of (ascii "-applies_to") ws) applies x.applies a2 i;
            elements = list_below mem scope elements;
            clamp = else_or (option_of (ascii "-clamp_value") ws) clamp x.clamp (ascii "0") a4 i;
            signal = else_found (option_of (ascii "-isolation_signal") ws) signal x.signal a5 i;
            sense = else_or (option_of (ascii "-isolation_sense") ws) sense x.sense (ascii "high") a6 i;
            power = else_found (option_of (ascii "-isolation_power_net") ws) power x.power a7 i;
            ground_net = else_found (option_of (ascii "-isolation_ground_net") ws) ground_net x.ground_net a8 i;
          };
          within = λ e z m b h g l.
              let o : Bounds (λ s. e (span_of s)) x m = bounds_of (λ s. e (span_of s)) x m b in
              all_bounds (λ s. e (span_of s)) again m
              (record {
                name = o.name;
                domain = o.domain;
                applies = else_by e z m l (option_of (ascii "-applies_to") ws) applies x.applies a2 o.applies;
                scope = h;
                elements = g;
                clamp = else_by e z m l (option_of (ascii "-clamp_value") ws) clamp x.clamp a4 o.clamp;
                signal = else_by e z m l (option_of (ascii "-isolation_signal") ws) signal x.signal a5 o.signal;
                sense = else_by e z m l (option_of (ascii "-isolation_sense") ws) sense x.sense a6 o.sense;
                power = else_by e z m l (option_of (ascii "-isolation_power_net") ws) power x.power a7 o.power;
                ground_net = else_by e z m l (option_of (ascii "-isolation_ground_net") ws) ground_net x.ground_net a8 o.ground_net;
              });
        }

    pub renewed_made : (p0 c0 s0 t0 w0 g0 : Option Stored) → p0 ≡ found_else applies x.applies → c0 ≡ found_else clamp x.clamp → s0 ≡ found_else signal x.signal → t0 ≡ found_else sense x.sense → w0 ≡ found_else power x.power → g0 ≡ found_else ground_net x.ground_net → RenewedIs mem words n x scope elements (record { name = x.name; domain = x.domain; applies = p0; scope = scope; elements = elements; clamp = c0; signal = s0; sense = t0; power = w0; ground_net = g0 })
    renewed_made p0 c0 s0 t0 w0 g0 q2 q4 q5 q6 q7 q8 = rw (q2, q4, q5, q6, q7, q8) renewed_is

  -- ---- one controlled
  module _ (x : Isolation) (signal sense : Option Span)
      (a5 : Finds mem words n (option_of (ascii "-isolation_signal") (words_from mem words n 1)) signal)
      (a6 : Finds mem words n (option_of (ascii "-isolation_sense") (words_from mem words n 1)) sense) where
    abbrev signalled : Isolation
    signalled = record { name = x.name; domain = x.domain; applies = x.applies; scope = x.scope; elements = x.elements; clamp = x.clamp; signal = found_else signal x.signal; sense = found_else sense x.sense; power = x.power; ground_net = x.ground_net }

    pub controlled_is : ControlledIs mem words n x signalled
    unfolding isolation_of
    controlled_is =
        record {
          is = λ i. record {
            name = string mem x.name;
            domain = string mem x.domain;
            applies_to = maybe_of mem x.applies;
            elements = list_below mem x.scope x.elements;
            clamp = or_else (maybe_of mem x.clamp) (ascii "0");
            signal = else_found (option_of (ascii "-isolation_signal") ws) signal x.signal a5 i;
            sense = else_or (option_of (ascii "-isolation_sense") ws) sense x.sense (ascii "high") a6 i;
            power = maybe_of mem x.power;
            ground_net = maybe_of mem x.ground_net;
          };
          within = λ e z m b l.
              let o : Bounds (λ s. e (span_of s)) x m = bounds_of (λ s. e (span_of s)) x m b in
              all_bounds (λ s. e (span_of s)) signalled m
              (record {
                name = o.name;
                domain = o.domain;
                applies = o.applies;
                scope = o.scope;
                elements = o.elements;
                clamp = o.clamp;
                signal = else_by e z m l (option_of (ascii "-isolation_signal") ws) signal x.signal a5 o.signal;
                sense = else_by e z m l (option_of (ascii "-isolation_sense") ws) sense x.sense a6 o.sense;
                power = o.power;
                ground_net = o.ground_net;
              });
        }

    pub controlled_made : (s0 t0 : Option Stored) → s0 ≡ found_else signal x.signal → t0 ≡ found_else sense x.sense → ControlledIs mem words n x (record { name = x.name; domain = x.domain; applies = x.applies; scope = x.scope; elements = x.elements; clamp = x.clamp; signal = s0; sense = t0; power = x.power; ground_net = x.ground_net })
    controlled_made s0 t0 q5 q6 = rw (q5, q6) controlled_is

-- ---- elements only where there are some

-- what was found can be stored
pub at_fits : (mem : Bytes) (words : List ℕ) (n : ℕ) (t : Option Bytes) (f : Option Span) (v : Span) → Finds mem words n t f → f ≡ Some v → last_of span_end (pairs words 0 n) < 2 ^ 32 → v.at + v.len < 2 ^ 32
at_fits mem words n t f v a g h = omega (arith, rw g at (a.within span_end refl))

replaced_none : (scope : Bytes) (ws old : List Bytes) → option_list "-elements" ws ≡ [] → elements_anew scope ws old ≡ old
replaced_none scope ws old e = rw e

replaced_some : (scope : Bytes) (ws old es : List Bytes) → option_list "-elements" ws ≡ es → 0 < length es → elements_anew scope ws old ≡ map (scoped scope) es
replaced_some scope ws old [] e h = absurd (omega arith)
replaced_some scope ws old (x ∷ es) e h = rw e

none_of : (es : List Bytes) → ltb 0 (length es) ≡ false → es ≡ []
none_of [] e = refl
none_of (x ∷ es) e = absurd (let z : suc (length es) ≤ 0 = ltb-false 0 (suc (length es)) e in omega arith)

some_of : (es : List Bytes) → ltb 0 (length es) ≡ true → 0 < length es
some_of es e = ltb-true 0 (length es) e

module _ (files area : Bytes) (words : List ℕ) (n : ℕ) (scope : Stored) (x : Isolation) (f : Option Span) (a : Finds (files ++ area) words n (option_of (ascii "-elements") (words_from (files ++ area) words n 1)) f) where
  abbrev mem : Bytes
  mem = files ++ area

  -- the elements that stood there
  old_is : (r : Isolation) → RenewedIs mem words n x x.scope x.elements r → (Whole files area words n → option_list "-elements" (words_from mem words n 1) ≡ []) → AnewIs files area words n scope x r
  unfolding isolation_of
  old_is r b q =
      record {
        is = λ w. b.is ∙ ap (λ (es : List Bytes). renewed (words_from mem words n 1) es (isolation_of mem x)) (sym (replaced_none (string mem scope) (words_from mem words n 1) (list_below mem x.scope x.elements) (q w)));
        within = λ e z m o h l.
            let p : Bounds (λ s. e (span_of s)) x m = bounds_of (λ s. e (span_of s)) x m o in
            b.within e z m o p.scope p.elements l;
      }

  pub anew_none : (r : Isolation) → f ≡ None → RenewedIs mem words n x x.scope x.elements r → AnewIs files area words n scope x r
  anew_none r g b =
      let q : found_of (files ++ area) f ≡ None = rw g in
      old_is r b (λ w. ap list_of (sym a.is ∙ q))

  module _ (v : Span) (g : f ≡ Some v) (u : Bool) (t : Held (length files) v → u ≡ ltb 0 (length (list (bytes (files ++ area) v)))) where
    its : option_list "-elements" (words_from mem words n 1) ≡ list (bytes mem v)
    its =
        let q : found_of (files ++ area) f ≡ Some (bytes (files ++ area) v) = rw g in
        ap list_of (sym a.is ∙ q)

    ends : (e : Span → ℕ) → e (0 ⋯ 0) ≡ 0 → e v ≤ last_of e (pairs words 0 n)
    ends e z = rw g at (a.within e z)

    held : Whole files area words n → Held (length files) v
    held w = held_by (length files) (length mem) v w.small (le_trans (ends (reach (length files)) (none_reach (length files))) w.line)

    pub anew_empty : (r : Isolation) → u ≡ false → RenewedIs mem words n x x.scope x.elements r → AnewIs files area words n scope x r
    anew_empty r h b = old_is r b (λ w. its ∙ none_of (list (bytes mem v)) (sym (t (held w)) ∙ h))

    pub anew_some : (y : Stored) (r : Isolation) → u ≡ true → y ≡ stored_of v → RenewedIs mem words n x scope y r → AnewIs files area words n scope x r
    unfolding isolation_of
    anew_some y r h k b =
        record {
          is = λ w. b.is ∙ ap (λ (es : List Bytes). renewed (words_from mem words n 1) es (isolation_of mem x))
              (rw k (sym (replaced_some (string mem scope) (words_from mem words n 1) (list_below mem x.scope x.elements) (list (bytes mem v)) its (some_of (list (bytes mem v)) (sym (t (held w)) ∙ h)))));
          within = λ e z m o q l. b.within e z m o q (rw k (le_trans (ends e z) l)) l;
        }

-- ---- which strategy is meant
module _ (mem : Bytes) (x : Isolation) (name domain : Stored) (p q : Span) (b : Bool) (e : p ≡ span_of x.name) (g : q ≡ span_of name) (h : b ≡ same (bytes mem p) (bytes mem q)) where
  named : same (string mem x.name) (string mem name) ≡ b
  named = sym (h ∙ rw (e, g))

  pub strategy_not : b ≡ false → false ≡ is_strategy_at mem name domain x
  unfolding isolation_of
  strategy_not t = rw (named, t)

  module _ (t : b ≡ true) (d : Span) (k : ℕ) (y : d ≡ span_of domain) (w : k ≡ length (bytes mem d)) where
    pub strategy_any : k ≡ 0 → true ≡ is_strategy_at mem name domain x
    unfolding isolation_of same
    strategy_any z =
        let o : string mem domain ≡ [] = no_bytes (string mem domain) (sym (ap (λ (s : Span). length (bytes mem s)) y) ∙ sym w ∙ z) in
        rw (named, t, o)

    pub strategy_of_lem : (k ≡ 0 → ⊥) → (i j : Span) (r : Bool) → i ≡ span_of x.domain → j ≡ span_of domain → r ≡ same (bytes mem i) (bytes mem j) → r ≡ is_strategy_at mem name domain x
    unfolding isolation_of
    strategy_of_lem z i j r ei ej u =
        let o : same (string mem domain) [] ≡ false = sym (differ (string mem domain) [] (λ l. z (w ∙ ap (λ (s : Span). length (bytes mem s)) y ∙ l))) in
        u ∙ rw (ei, ej, named, t, o)
