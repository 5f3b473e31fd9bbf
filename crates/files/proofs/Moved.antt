-- Laws: `set_scope`, which may write its scope to the area. Assumes nothing.
use Prim.Native.Nat.{ℕ, ◌+◌, ◌≤◌}
use native.Mathlib.Omega.{arith}
use mathlib.Core.Path.{◌≡◌, refl, sym, ap, ◌∙◌}
use mathlib.Core.Bool.{Bool, true, false, cond}
use mathlib.Core.List.{List, []}
use lib.Dec.{leb}
use lib.ListN.{length, take, drop}
use borrow.Author.Tests.{leb-true}
use Rattle.text.specs.Ascii.{Bytes}
use Rattle.text.specs.Sames.{both}
use Rattle.out.specs.Emit.{◌▸◌, emit}
use Rattle.tcl.specs.Arguments.{name_of}
use Rattle.args.specs.View.{words_from}
use Rattle.model.specs.Names.{Named}
use Rattle.model.specs.Records.{Model, with_scope}
use Rattle.model.specs.Scope.{moved}
use Rattle.model.specs.Commands.{scope_command}
use Rattle.model.specs.Within.{Counted}
use Rattle.read.specs.Reading.{Reading, done, refused}
use Rattle.store.specs.Strings.{string}
use Rattle.store.specs.View.{model_of}
use Rattle.store.specs.Rows.{store_of}
use Rattle.store.specs.declared.state.State.{State}
use Rattle.scopes.specs.declared.go.Out.{Out}
use Rattle.scopes.specs.Moves.{scope_fits, place_of, In, Stays, Moves, Line as Scopes-as-Line}
use Rattle.held.specs.Held.{mem_of, model_at, counted_of, Logged, Lends, Held, Comes, Ran}
use Rattle.loads.specs.Steps.{acted, line_at}
use Rattle.loads.specs.Scoped.{line_is_lem, scoping, in_held, in_model, in_counted, in_log, scope_within, far, cond_is}
use Rattle.plain.specs.Asks.{Asks}
use Rattle.plain.specs.Reads.{model_log, reading_done, reading_refused, comes_at}

module _ (files area nums words : List ℕ) (n c : ℕ) (s : State) (v : Asks files area nums words n c s) where
  abbrev mem : Bytes
  mem = mem_of files area s

  abbrev now : Bytes → Model
  now text = model_at files area nums s text

  -- the scope that it gives
  abbrev to : Bytes
  to = moved (string mem s.head.scope) (name_of (words_from mem words n 1))

  abbrev counts : Counted
  counts = record { commands = s.count.commands; substituted = s.count.substituted; scopes = s.count.scopes + length to; entries = s.count.entries }

  abbrev D : Bytes → Reading
  D text = acted Named.set_scope (line_at files area words n s) (counted_of s) (now text)

  pub scope_asks : Scopes-as-Line files area words n (place_of s)
  scope_asks = scoping files area nums 1 s v.held words n v.worded

  scope_is_lem : (text : Bytes) → (now text).scope ≡ string mem s.head.scope
  unfolding model_of
  scope_is_lem text = refl

  acts : (text : Bytes) → D text ≡ cond (scope_fits s.count.scopes to) (done counts (with_scope (now text) to)) (refused 10 s.count.commands)
  unfolding scope_command
  acts text =
      rw (line_is_lem mem words n v.named, scope_is_lem text)
      (cond_is _ _ _ _ (scope_within files area nums s v.held v.counted text to))

  module _ (area' : List ℕ) (r : Out) (log : Bytes) (len : length area' ≡ length area) where
    lends : Lends files area' nums
    lends = record { files_short = v.held.lends.files_short; area_long = omega (arith, v.held.lends.area_long, len); small = omega (arith, v.held.lends.small, len); nums_long = v.held.lends.nums_long }

    abbrev then : Bytes → Model
    then text = model_at files area' nums r.state text

    -- it is within the limits
    module _ (q : scope_fits s.count.scopes to ≡ true) (g : In files area area' s to r) where
      fits : s.count.scopes + length to ≤ 8192
      fits = leb-true (s.count.scopes + length to) 8192 (both (leb (length to) 512) (leb (s.count.scopes + length to) 8192) q).1

      held : Held files area' nums 0 r.state
      held = in_held files area area' nums s v.held lends to r g fits v.counted

      log_is : (text : Bytes) → (then text).log ≡ text
      log_is text = model_log (mem_of files area' r.state) (store_of nums r.state) r.state text

      in_acts : (text : Bytes) → D text ≡ done (counted_of r.state) (then text)
      in_acts text =
          acts text
          ∙ ap (λ (b : Bool). cond b (done counts (with_scope (now text) to)) (refused 10 s.count.commands)) q
          ∙ ap (λ (k : Counted). done k (with_scope (now text) to)) (sym (in_counted files area area' nums s v.held lends to r g fits v.counted))
          ∙ ap (done (counted_of r.state)) (sym (in_model files area area' nums s v.held lends to r g fits v.counted text))

      in_comes : (log₀ text : Bytes) → Logged log₀ log s.fill.log text → Comes files area' nums log₀ log r (done (counted_of r.state) (then text))
      in_comes log₀ text h =
          record {
            result = reading_done files area' nums (then text).log r (counted_of r.state) (then text) g.tag refl (ap then (log_is text));
            logged = λ z. ap (λ (k : ℕ). log ▸ k) (in_log files area area' nums s v.held lends to r g fits v.counted) ∙ h ∙ ap (emit (log₀ ▸ 0)) (sym (log_is text));
          }

      in_ran : Ran files area area' nums nums log log s r D
      in_ran =
          record {
            held = λ z. held;
            more = λ z. g.more;
            lent = record { kept = g.kept; back = far area area' r.state.fill.end (omega (arith, held.end, held.substituted, held.scopes)) g.back; low = refl; high = refl };
            reads = λ log₀ text h. comes_at files area' nums log₀ log r (D text) (done (counted_of r.state) (then text)) (in_acts text) (in_comes log₀ text h);
          }

    -- it is past them
    stays_ran : scope_fits s.count.scopes to ≡ false → Stays area area' s r → Ran files area area' nums nums log log s r D
    stays_ran q g =
        record {
          held = λ z. absurd (omega (arith, g.tag, z));
          more = λ z. absurd (omega (arith, g.tag, z));
          lent = record { kept = ap (take s.fill.end) g.same; back = ap (drop 24576) g.same; low = refl; high = refl };
          reads = λ log₀ text h. comes_at files area' nums log₀ log r (D text) (refused 10 s.count.commands)
              (acts text ∙ ap (λ (b : Bool). cond b (done counts (with_scope (now text) to)) (refused 10 s.count.commands)) q)
              (record {
                result = reading_refused files area' nums [] r s.count.commands g.tag (ap (λ (u : State). u.count.commands) g.state);
                logged = λ z. absurd (omega (arith, g.tag, z));
              });
        }

    by : (b : Bool) → scope_fits s.count.scopes to ≡ b → Moves files area area' s to r b → Ran files area area' nums nums log log s r D
    by true q g = in_ran q g
    by false q g = stays_ran q g

    pub scope_ran : Moves files area area' s to r (scope_fits s.count.scopes to) → Ran files area area' nums nums log log s r D
    scope_ran g = by (scope_fits s.count.scopes to) refl g
