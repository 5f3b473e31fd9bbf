-- Laws: a command that puts words of states into the store. Assumes nothing.
use Prim.Native.Nat.{ℕ, ◌+◌, ◌-◌, ◌≤◌}
use native.Mathlib.Omega.{arith}
use mathlib.Core.Path.{◌≡◌, refl, sym, ap, ◌∙◌}
use mathlib.Core.Bool.{Bool, true, false, cond, ◌||◌}
use mathlib.Core.List.{List, []}
use lib.ListN.{length, take, drop}
use Rattle.text.specs.Ascii.{Bytes, ascii}
use Rattle.text.specs.Compare.{same}
use Rattle.text.specs.Sames.{same_eq}
use Rattle.spans.specs.Span.{bytes, pair_at}
use Rattle.tcl.specs.Arguments.{is_key}
use Rattle.args.specs.View.{words_from}
use Rattle.model.specs.Names.{Command, Named, command_named}
use Rattle.model.specs.Numbers.{named_by}
use Rattle.model.specs.Records.{Model}
use Rattle.model.specs.Commands.{carried_out}
use Rattle.model.specs.Within.{records_fit}
use Rattle.read.specs.Reading.{done, refused, line_of}
use Rattle.store.specs.View.{Store}
use Rattle.store.specs.Rows.{Packs, store_of}
use Rattle.store.specs.declared.stored.Stored.{Stored}
use Rattle.store.specs.declared.state.State.{State}
use Rattle.made.specs.declared.Made.{Made}
use Rattle.made.specs.declared.Deed.{Deed}
use Rattle.made.specs.Made.{Did, words_set, brief_of, done_by}
use Rattle.statecmds.specs.Words.{words_put, worded, words_long, store_more}
use Rattle.statecmds.specs.Stated.{WordRoom, WordsDone}
use Rattle.held.specs.Held.{mem_of, model_at, counted_of, Lent, Ran}
use Rattle.loads.specs.Steps.{acted, line_at}
use Rattle.loads.specs.Scoped.{line_is_lem}
use Rattle.plain.specs.Asks.{Asks}
use Rattle.plain.specs.Reads.{Steady, steady, acted_is, comes_at}
use Rattle.plain.specs.Stores.{row_stored, out_of}
use Rattle.plain.proofs.Rows.{words_low, words_high}
use Rattle.plain.proofs.Holds.{ready, room, same_rows, stored_held, stored_lent, stored_comes, tag_zero}

did_at : (long : ℕ) (mem : Bytes) (st st' : Store) (log : Bytes) (s : State) (r : Made) (t : Model) → st ≡ st' → Did long mem st' log s r t → Did long mem st log s r t
did_at long mem st st' log s r t e d = rw e d

module _ (files area nums words : List ℕ) (n c : ℕ) (s : State) (v : Asks files area nums words n c s) (x : Command) (ec : named_by c ≡ Named.other x) where
  abbrev mem : Bytes
  mem = mem_of files area s

  abbrev left : Bytes → Model
  left text = carried_out x (model_at files area nums s text) (bytes mem (pair_at words 0)) (words_from mem words n 1)

  acts : (text : Bytes) → acted (named_by c) (line_at files area words n s) (counted_of s) (model_at files area nums s text) ≡ cond (records_fit (left text)) (done (counted_of s) (left text)) (refused 10 s.count.commands)
  acts text =
      ap (λ (y : Named). acted y (line_at files area words n s) (counted_of s) (model_at files area nums s text)) ec
      ∙ acted_is files area nums s (steady files area nums s v.held v.counted) (Named.other x) (line_at files area words n s) (model_at files area nums s text) refl
      ∙ ap (λ (l : List Bytes). cond (records_fit (carried_out x (model_at files area nums s text) (line_of l).name (line_of l).rest)) (done (counted_of s) (carried_out x (model_at files area nums s text) (line_of l).name (line_of l).rest)) (refused 10 s.count.commands)) (line_is_lem mem words n v.named)

  module _ (nums₁ : List ℕ) (d : Deed) (put : List Stored) (becomes : nums₁ ≡ words_put nums s.fill.words put) (g : WordsDone files (take s.fill.end area) words n put s d (λ (m : Model). carried_out x m (bytes mem (pair_at words 0)) (words_from mem words n 1))) where
    abbrev s₁ : State
    s₁ = words_set s (s.fill.words + length put)

    abbrev r : Made
    r = done_by s d

    plain_did : (text : Bytes) → Did (length files) mem (worded (store_of nums s) put) text s₁ r (left text)
    plain_did text = g.did (store_of nums s) text (ready files area nums 1 s v.held words n v.worded)

    few : s.fill.words + length put ≤ 4032
    few = omega (arith, (plain_did []).kept.words, g.stored, (plain_did []).shaped.switches.count, (plain_did []).shaped.portstates.count)

    store_is : store_of nums₁ s₁ ≡ worded (store_of nums s) put
    store_is =
        ap (λ (l : List ℕ). store_of l s₁) becomes
        ∙ store_more nums s put (omega (arith, v.held.rows, v.counted)) (omega (arith, few, v.held.lends.nums_long))

    pub long_is : length nums₁ ≡ length nums
    long_is = ap length becomes ∙ words_long nums s.fill.words put

    steady_on : Steady files area nums₁ s₁
    steady_on =
        record {
          lends = record { files_short = v.held.lends.files_short; area_long = v.held.lends.area_long; small = v.held.lends.small; nums_long = omega (arith, long_is, v.held.lends.nums_long) };
          commands = v.counted;
          substituted = v.held.substituted;
          scopes = v.held.scopes;
          entries = v.held.entries;
          end = v.held.end;
          rows = v.held.rows;
        }

    did : (text : Bytes) → Did (length files) mem (store_of nums₁ s₁) text s₁ r (left text)
    did text = did_at (length files) mem (store_of nums₁ s₁) (worded (store_of nums s) put) text s₁ r (left text) store_is (plain_did text)

    pub words_packs : Packs r.row
    words_packs = (did []).packs

    pub words_same : r.row.kind ≡ 0 → r.state.fill.rows ≡ s.fill.rows
    words_same = same_rows files area nums₁ s₁ steady_on [] r (left []) (did [])

    lent : Lent s.fill.end area area nums (row_stored nums₁ r)
    lent =
        let b = stored_lent files area nums₁ s₁ steady_on [] r (left []) (did []) in
        record {
          kept = refl;
          back = refl;
          low = b.low ∙ ap (take 1472) becomes ∙ words_low nums s.fill.words put;
          high = b.high ∙ ap (drop 14656) becomes ∙ words_high nums s.fill.words put few;
        }

    pub words_ran : (log : Bytes) → Ran files area area nums (row_stored nums₁ r) log log s (out_of r) (λ text. acted (named_by c) (line_at files area words n s) (counted_of s) (model_at files area nums s text))
    words_ran log =
        record {
          held = λ h. stored_held files area nums₁ s₁ steady_on [] r (left []) (did []) (tag_zero r.tag h) g.stored;
          more = λ h. omega (arith, (did []).kept.end);
          lent = lent;
          reads = λ log₀ text h. comes_at files area (row_stored nums₁ r) log₀ log (out_of r) (acted (named_by c) (line_at files area words n s) (counted_of s) (model_at files area nums s text)) (cond (records_fit (left text)) (done (counted_of s) (left text)) (refused 10 s.count.commands)) (acts text)
              (stored_comes files area nums₁ s₁ steady_on text r (left text) (did text) log₀ log h);
        }

  pub words_room : (one two : Bytes) → is_key one two (bytes mem (pair_at words 0)) ≡ false → WordRoom one two mem words n nums (brief_of s)
  words_room one two k =
      record {
        line = room files area nums 1 s v.held words n v.worded;
        few = v.few;
        named = k;
        long = v.held.lends.nums_long;
        switches = v.held.shaped.switches.count;
        portstates = v.held.shaped.portstates.count;
        stored = v.held.words;
      }

-- ---- the command's name is no key of states
abbrev kind_of : Named → ℕ
kind_of Named.load_upf = 2
kind_of Named.set_scope = 3
kind_of (Named.other c) = 1
kind_of Named.unknown = 0

not_named : (w : Bytes) (x : Command) → command_named w ≡ Named.unknown → command_named w ≡ Named.other x → ⊥
not_named w x e h = let z : ◌≡◌ {A = ℕ} 0 1 = ap kind_of (sym e ∙ h) in absurd (omega arith)

no_key : (one two w : Bytes) (x : Command) → command_named w ≡ Named.other x → command_named one ≡ Named.unknown → command_named two ≡ Named.unknown → is_key one two w ≡ false
no_key one two w x e p q = go (same w one) (same w two) refl refl
  where
    go : (a b : Bool) → same w one ≡ a → same w two ≡ b → (a || b) ≡ false
    go true b h k = absurd (not_named one x p (ap command_named (sym (same_eq w one h)) ∙ e))
    go false true h k = absurd (not_named two x q (ap command_named (sym (same_eq w two k)) ∙ e))
    go false false h k = refl

on_unknown : command_named (ascii "-on_state") ≡ Named.unknown
unfolding command_named same
on_unknown = refl

off_unknown : command_named (ascii "-off_state") ≡ Named.unknown
unfolding command_named same
off_unknown = refl

state_unknown : command_named (ascii "-state") ≡ Named.unknown
unfolding command_named same
state_unknown = refl

named_as : (files area nums words : List ℕ) (n c : ℕ) (s : State) → Asks files area nums words n c s → command_named (bytes (mem_of files area s) (pair_at words 0)) ≡ named_by c
named_as files area nums words n c s v = ap (λ (l : List Bytes). command_named (line_of l).name) (sym (line_is_lem (mem_of files area s) words n v.named)) ∙ v.is

pub switch_room : (files area nums words : List ℕ) (n : ℕ) (s : State) → Asks files area nums words n 21 s → WordRoom (ascii "-on_state") (ascii "-off_state") (mem_of files area s) words n nums (brief_of s)
switch_room files area nums words n s v =
    words_room files area nums words n 21 s v Command.create_power_switch refl (ascii "-on_state") (ascii "-off_state")
    (no_key (ascii "-on_state") (ascii "-off_state") (bytes (mem_of files area s) (pair_at words 0)) Command.create_power_switch (named_as files area nums words n 21 s v) on_unknown off_unknown)

pub port_room : (files area nums words : List ℕ) (n : ℕ) (s : State) → Asks files area nums words n 27 s → WordRoom (ascii "-state") (ascii "-state") (mem_of files area s) words n nums (brief_of s)
port_room files area nums words n s v =
    words_room files area nums words n 27 s v Command.add_port_state refl (ascii "-state") (ascii "-state")
    (no_key (ascii "-state") (ascii "-state") (bytes (mem_of files area s) (pair_at words 0)) Command.add_port_state (named_as files area nums words n 27 s v) state_unknown state_unknown)
