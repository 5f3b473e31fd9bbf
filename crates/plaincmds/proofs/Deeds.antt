-- Laws: what a deed does to every state of which the brief is known. Assumes nothing.
use Rattle.std.specs.Prelude.{Option, Some, None}
use Prim.Native.Nat.{ℕ, ◌≤◌, ◌<◌}
use native.Mathlib.Omega.{arith}
use mathlib.Core.Path.{◌≡◌, refl, sym, ap, ◌∙◌}
use mathlib.Core.Bool.{Bool, true, false}
use mathlib.Core.List.{List, [], ◌++◌}
use lib.ListN.{length}
use Rattle.text.specs.Ascii.{Bytes}
use Rattle.spans.specs.Span.{bytes, pair_at}
use Rattle.spans.specs.declared.span.Span.{Span}
use Rattle.tcl.specs.Arguments.{positionals, name_of}
use Rattle.args.specs.View.{words_from, pick, Reads, Finds}
use Rattle.model.specs.Names.{Command, is_query}
use Rattle.model.specs.Records.{Model}
use Rattle.model.specs.Commands.{set_command, design_top_command, retention_command, shifter_command, unsupported, carried_out}
use Rattle.store.specs.Strings.{span_of, stored_of}
use Rattle.store.specs.declared.stored.Stored.{Stored}
use Rattle.store.specs.declared.state.State.{State}
use Rattle.store.specs.declared.state.Retention.{Retention}
use Rattle.store.specs.declared.state.Shifter.{Shifter}
use Rattle.made.specs.declared.Brief.{Brief}
use Rattle.made.specs.declared.Deed.TheVariants as deed
use Rattle.made.specs.Made.{brief_of, done_by, Does}
use Rattle.plaincmds.specs.Sets.{set_nothing, set_full, set_fine}
use Rattle.plaincmds.specs.Tops.{top_stays, top_inside, top_fine}
use Rattle.plaincmds.specs.Retentions.{RetentionIs, retention_full, retention_fine}
use Rattle.plaincmds.specs.Shifters.{ShifterIs, shifter_full, shifter_fine}
use Rattle.plaincmds.specs.Others.{query_passes, unknown_warned, parsed_warned}

module _ (files area : Bytes) (words : List ℕ) (n : ℕ) (b : Brief) where
  abbrev mem : Bytes
  mem = files ++ area

  abbrev ws : List Bytes
  ws = words_from mem words n 1

  abbrev Told : State → Type 0
  Told s = brief_of s ≡ b

  -- ---- set
  pub set_nothing_does : (f : Option Span) → Finds mem words n (pick 1 (positionals ws)) f → f ≡ None → Does files area words n Told deed.Nothing (λ (m : Model). set_command m ws)
  set_nothing_does f a e = λ s q. record { fits = tt; did = λ st log v. set_nothing (length files) mem words n st log s v f (done_by s deed.Nothing) a e refl }

  module _ (w : Span) (f : Option Span) (a : Finds mem words n (pick 1 (positionals ws)) f) (e : f ≡ Some w) where
    pub set_full_does : 64 ≤ b.variables → Does files area words n Told deed.Full (λ (m : Model). set_command m ws)
    set_full_does h = λ s q. record { fits = tt; did = λ st log v. set_full (length files) mem words n st log s v w f a e (done_by s deed.Full) (omega (arith, h, ap (λ (z : Brief). z.variables) q)) refl }

    pub set_fine_does : (r : Span) (x y : Stored) → b.variables < 64 → Reads mem words n (name_of ws) r → x ≡ stored_of r → y ≡ stored_of w → Does files area words n Told (deed.Variable x y) (λ (m : Model). set_command m ws)
    set_fine_does r x y h c ex ey =
        λ s q.
        let k : s.variables.n < 64 = omega (arith, h, ap (λ (z : Brief). z.variables) q) in
        record { fits = k; did = λ st log v. set_fine (length files) mem words n st log s v w f a e r x y _ (done_by s (deed.Variable x y)) k c ex ey refl refl }

  -- ---- set_design_top
  pub top_stays_does : (x : Stored) → b.top ≡ Some x → Does files area words n Told deed.Nothing (λ (m : Model). design_top_command m ws)
  top_stays_does x e = λ s q. record { fits = tt; did = λ st log v. top_stays (length files) mem words n st log s v x (done_by s deed.Nothing) (ap (λ (z : Brief). z.top) q ∙ e) refl }

  module _ (p : Span) (k : ℕ) (e : b.top ≡ None) (ep : p ≡ span_of b.scope) (ek : k ≡ length (bytes mem p)) where
    pub top_inside_does : (k ≡ 0 → ⊥) → Does files area words n Told deed.Nothing (λ (m : Model). design_top_command m ws)
    top_inside_does h = λ s q. record { fits = tt; did = λ st log v. top_inside (length files) mem words n st log s v p k (done_by s deed.Nothing) (ap (λ (z : Brief). z.top) q ∙ e) (ep ∙ ap (λ (z : Brief). span_of z.scope) (sym q)) ek h refl }

    pub top_fine_does : (r : Span) (x : Stored) → k ≡ 0 → Reads mem words n (name_of ws) r → x ≡ stored_of r → Does files area words n Told (deed.Top (Some x)) (λ (m : Model). design_top_command m ws)
    top_fine_does r x h a ex = λ s q. record { fits = tt; did = λ st log v. top_fine (length files) mem words n st log s v p k r x _ (done_by s (deed.Top (Some x))) (ap (λ (z : Brief). z.top) q ∙ e) (ep ∙ ap (λ (z : Brief). span_of z.scope) (sym q)) ek h a ex refl refl }

  -- ---- set_retention
  pub retention_full_does : 32 ≤ b.retentions → Does files area words n Told deed.Full (λ (m : Model). retention_command m ws)
  retention_full_does h = λ s q. record { fits = tt; did = λ st log v. retention_full (length files) mem words n st log s v (done_by s deed.Full) (omega (arith, h, ap (λ (z : Brief). z.retentions) q)) refl }

  pub retention_fine_does : (d : Retention) → b.retentions < 32 → RetentionIs mem words n b.scope d → Does files area words n Told (deed.Retention d) (λ (m : Model). retention_command m ws)
  retention_fine_does d h a =
      λ s q.
      let k : s.retentions.n < 32 = omega (arith, h, ap (λ (z : Brief). z.retentions) q) in
      let c : RetentionIs mem words n s.head.scope d = rw (ap (λ (z : Brief). z.scope) q) a in
      record { fits = k; did = λ st log v. retention_fine (length files) mem words n st log s v d _ (done_by s (deed.Retention d)) k c refl refl }

  -- ---- set_level_shifter
  pub shifter_full_does : 32 ≤ b.shifters → Does files area words n Told deed.Full (λ (m : Model). shifter_command m ws)
  shifter_full_does h = λ s q. record { fits = tt; did = λ st log v. shifter_full (length files) mem words n st log s v (done_by s deed.Full) (omega (arith, h, ap (λ (z : Brief). z.shifters) q)) refl }

  pub shifter_fine_does : (d : Shifter) → b.shifters < 32 → ShifterIs mem words n d → Does files area words n Told (deed.Shifter d) (λ (m : Model). shifter_command m ws)
  shifter_fine_does d h a =
      λ s q.
      let k : s.shifters.n < 32 = omega (arith, h, ap (λ (z : Brief). z.shifters) q) in
      record { fits = k; did = λ st log v. shifter_fine (length files) mem words n st log s v d _ (done_by s (deed.Shifter d)) k a refl refl }

-- ---- the commands that are only named
module _ (files area : Bytes) (words : List ℕ) (p : Span) (e : p ≡ pair_at words 0) where
  abbrev memory : Bytes
  memory = files ++ area

  abbrev w : Bytes
  w = bytes memory (pair_at words 0)

  abbrev Any : State → Type 0
  Any s = Unit {0}

  pub query_passes_does : (b : Bool) → b ≡ is_query (bytes memory p) → b ≡ true → Does files area words 1 Any deed.Nothing (λ (m : Model). unsupported m w)
  query_passes_does b h t = λ s q. record { fits = tt; did = λ st log v. query_passes (length files) memory words st log s v p b (done_by s deed.Nothing) e h t refl }

  pub unknown_warned_does : (b : Bool) (x : Stored) → b ≡ is_query (bytes memory p) → b ≡ false → x ≡ stored_of p → Does files area words 1 Any (deed.Warning 8 x) (λ (m : Model). unsupported m w)
  unknown_warned_does b x h t ex = λ s q. record { fits = tt; did = λ st log v. unknown_warned (length files) memory words st log s v p b x (done_by s (deed.Warning 8 x)) e h t ex refl }

  pub parsed_warned_does : (x : Stored) → x ≡ stored_of p → Does files area words 1 Any (deed.Warning 7 x) (λ (m : Model). carried_out Command.not_simulated m w [])
  parsed_warned_does x ex = λ s q. record { fits = tt; did = λ st log v. parsed_warned (length files) memory words st log s v p x (done_by s (deed.Warning 7 x)) e ex refl }
