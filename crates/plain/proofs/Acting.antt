-- Laws: `act`, told of a state. Assumes nothing.
use Rattle.store.specs.declared.state.Few.{Few}
use Rattle.store.specs.declared.stored.Below.{Below}
use Rattle.store.specs.declared.state.Domain.{Domain}
use Rattle.store.specs.declared.state.Isolation.{Isolation}
use Rattle.store.specs.declared.state.Table.{Table}
use Prim.Native.Nat.{ℕ, ◌+◌, ◌≤◌, ◌<◌}
use native.Mathlib.Omega.{arith}
use mathlib.Core.Path.{◌≡◌, refl, sym, ap, ◌∙◌}
use mathlib.Core.Bool.{false}
use mathlib.Core.List.{List, ◌++◌}
use lib.ListN.{length, take}
use Rattle.text.specs.Ascii.{Bytes, ascii}
use Rattle.spans.specs.Span.{bytes, pair_at}
use Rattle.args.specs.View.{words_from}
use Rattle.model.specs.Names.{Command, Named}
use Rattle.model.specs.Numbers.{named_by}
use Rattle.model.specs.Records.{Model}
use Rattle.model.specs.Commands.{carried_out}
use Rattle.read.specs.Reading.{Reading}
use Rattle.store.specs.Rows.{Packs}
use Rattle.store.specs.declared.row.Row.{Row}
use Rattle.store.specs.declared.stored.Stored.{Stored}
use Rattle.store.specs.declared.state.State.{State}
use Rattle.made.specs.declared.Brief.{Brief}
use Rattle.made.specs.declared.Deed.{Deed}
use Rattle.made.specs.Made.{brief_of, done_by, Does, Done}
use Rattle.deeds.specs.Deeds.{row_by, deed_put, row_is_lem}
use Rattle.enter.specs.Entered.{done as carried, Entering, Told}
use Rattle.statecmds.specs.Words.{words_put}
use Rattle.statecmds.specs.Stated.{WordRoom, WordsDone, WordsDid}
use Rattle.held.specs.Held.{mem_of, model_at, counted_of}
use Rattle.loads.specs.Steps.{acted, line_at}
use Rattle.plain.specs.Acts.{Acting, Acts}
use Rattle.plain.specs.Asks.{Asks}
use Rattle.plain.specs.Stores.{row_stored, out_of}
use Rattle.plain.proofs.Rows.{put_is}
use Rattle.plain.proofs.Holds.{room, ran_at}
use Rattle.plain.proofs.Entering.{moves, no_move, row_packs, row_same, ran}
use Rattle.plain.proofs.Wording.{long_is, words_packs, words_same, words_ran, switch_room, port_room}

asks_at : (files area nums words : List ℕ) (n c k : ℕ) (s : State) → c ≡ k → Asks files area nums words n c s → Asks files area nums words n k s
asks_at files area nums words n c k s e v = rw (← e) v

packs_at : (r r' : Row) → r ≡ r' → Packs r → Packs r'
packs_at r r' e p = rw (← e) p

row_at : (w w' : ℕ) (d : Deed) → w ≡ w' → row_by w d ≡ row_by w' d
row_at w w' d e = rw e

done_at : (files area area' words : List ℕ) (n : ℕ) (s : State) (x : Named) (d : Deed) → area ≡ area'
    → Done files area words n s d (λ (m : Model). carried x m (bytes (files ++ area) (pair_at words 0)) (words_from (files ++ area) words n 1))
    → Done files area' words n s d (λ (m : Model). carried x m (bytes (files ++ area') (pair_at words 0)) (words_from (files ++ area') words n 1))
done_at files area area' words n s x d e g = rw (← e) g

words_at_lem : (files area area' words : List ℕ) (n : ℕ) (put : List Stored) (s : State) (x : Command) (d : Deed) → area ≡ area'
    → WordsDone files area words n put s d (λ (m : Model). carried_out x m (bytes (files ++ area) (pair_at words 0)) (words_from (files ++ area) words n 1))
    → WordsDone files area' words n put s d (λ (m : Model). carried_out x m (bytes (files ++ area') (pair_at words 0)) (words_from (files ++ area') words n 1))
words_at_lem files area area' words n put s x d e g = rw (← e) g

room_at : (one two files area area' words : List ℕ) (n : ℕ) (nums : List ℕ) (b b' : Brief) → area ≡ area' → b ≡ b' → WordRoom one two (files ++ area') words n nums b → WordRoom one two (files ++ area) words n nums b'
room_at one two files area area' words n nums b b' e f g = rw (e, ← f) g

module _ (files area nums words : List ℕ) (n c k w : ℕ) (b : Brief) (ds : Few Domain) (ns : Few Below) (is : Few Isolation) (ts : Few Table) (v : Acting files area nums words n c k w b ds ns is ts) where
  abbrev s : State
  s = v.state

  abbrev whole : Bytes
  whole = v.whole

  few_rows : k < 1024
  few_rows = omega (arith, v.rows, v.asks.held.rows, v.asks.counted)

  -- the row of the deed
  packs : (d : Deed) → Packs (done_by s d).row → Packs (row_by w d)
  packs d p = packs_at (done_by s d).row (row_by w d) (row_is_lem s d ∙ row_at s.fill.warnings w d v.warnings) p

  put_at : (nums₁ : List ℕ) (d : Deed) → deed_put nums₁ k w d ≡ deed_put nums₁ s.fill.rows s.fill.warnings d
  put_at nums₁ d = ap (λ (j : ℕ). deed_put nums₁ j w d) (sym v.rows) ∙ ap (λ (j : ℕ). deed_put nums₁ s.fill.rows j d) (sym v.warnings)

  abbrev D : Bytes → Reading
  D text = acted (named_by c) (line_at files whole words n s) (counted_of s) (model_at files whole nums s text)

  -- ---- a switch or a port state
  module _ (x : Command) (ec : named_by c ≡ Named.other x) (nums₁ : List ℕ) (d : Deed) (g : WordsDid files area words n nums nums₁ b d (λ (m : Model). carried_out x m (bytes (files ++ area) (pair_at words 0)) (words_from (files ++ area) words n 1))) where
    becomes : nums₁ ≡ words_put nums s.fill.words g.put
    becomes = g.becomes ∙ ap (λ (j : ℕ). words_put nums j g.put) (sym (ap (λ (z : Brief). z.words) v.told.brief))

    done_now : WordsDone files (take s.fill.end whole) words n g.put s d (λ (m : Model). carried_out x m (bytes (mem_of files whole s) (pair_at words 0)) (words_from (mem_of files whole s) words n 1))
    done_now = words_at_lem files area (take s.fill.end whole) words n g.put s x d v.front (g.done s v.told.brief)

    pub worded_asks : (k < 1024) × ((16384 ≤ length nums₁) × Packs (row_by w d))
    worded_asks = (few_rows, (omega (arith, long_is files whole nums words n c s v.asks x ec nums₁ d g.put becomes done_now, v.asks.held.lends.nums_long), packs d (words_packs files whole nums words n c s v.asks x ec nums₁ d g.put becomes done_now)))

    pub worded_acts : (nums' : List ℕ) → nums' ≡ deed_put nums₁ k w d → Acts files whole nums nums' words n c s d
    worded_acts nums' e =
        record {
          fits = done_now.fits;
          ran = λ log. ran_at files whole nums nums' (row_stored nums₁ (done_by s d)) log log s (out_of (done_by s d)) (out_of (done_by s d)) D
              (e ∙ put_at nums₁ d ∙ put_is nums₁ s d (words_same files whole nums words n c s v.asks x ec nums₁ d g.put becomes done_now)) refl
              (words_ran files whole nums words n c s v.asks x ec nums₁ d g.put becomes done_now log);
        }

  pub switch_asks : c ≡ 21 → WordRoom (ascii "-on_state") (ascii "-off_state") (files ++ area) words n nums b
  switch_asks e =
      room_at (ascii "-on_state") (ascii "-off_state") files area (take s.fill.end whole) words n nums (brief_of s) b v.front v.told.brief
      (switch_room files whole nums words n s (asks_at files whole nums words n c 21 s e v.asks))

  pub port_asks : c ≡ 27 → WordRoom (ascii "-state") (ascii "-state") (files ++ area) words n nums b
  port_asks e =
      room_at (ascii "-state") (ascii "-state") files area (take s.fill.end whole) words n nums (brief_of s) b v.front v.told.brief
      (port_room files whole nums words n s (asks_at files whole nums words n c 27 s e v.asks))

  -- ---- another
  still : moves (named_by c) ≡ false
  still = no_move c v.asks.no_load v.no_scope

  pub enter_asks : (c ≡ 21 → ⊥) → (c ≡ 27 → ⊥) → Entering words n c ds ns is ts
  enter_asks p q =
      record {
        line = room files whole nums 1 s v.asks.held words n v.asks.worded;
        enters = record { words = v.asks.named; named = v.asks.known; no_puts = v.no_puts; no_load = v.asks.no_load; no_scope = v.no_scope; no_switch = p; no_port_state = q };
        domains = omega (arith, ap (λ (z : Few Domain). z.n) v.told.domains, v.asks.held.shaped.domains.count);
        nets = omega (arith, ap (λ (z : Few Below). z.n) v.told.nets, v.asks.held.shaped.nets.count);
        isolations = omega (arith, ap (λ (z : Few Isolation). z.n) v.told.isolations, v.asks.held.shaped.isolations.count);
        tables = omega (arith, ap (λ (z : Few Table). z.n) v.told.tables, v.asks.held.shaped.tables.count);
      }

  module _ (d : Deed) (g : Does files area words n (Told b ds ns is ts) d (λ (m : Model). carried (named_by c) m (bytes (files ++ area) (pair_at words 0)) (words_from (files ++ area) words n 1))) where
    did_now : Done files (take s.fill.end whole) words n s d (λ (m : Model). carried (named_by c) m (bytes (mem_of files whole s) (pair_at words 0)) (words_from (mem_of files whole s) words n 1))
    did_now = done_at files area (take s.fill.end whole) words n s (named_by c) d v.front (g s v.told)

    pub entered_asks : (k < 1024) × ((16384 ≤ length nums) × Packs (row_by w d))
    entered_asks = (few_rows, (v.asks.held.lends.nums_long, packs d (row_packs files whole nums words n c s v.asks still (done_by s d) did_now.did)))

    pub entered_acts : (nums' : List ℕ) → nums' ≡ deed_put nums k w d → Acts files whole nums nums' words n c s d
    entered_acts nums' e =
        record {
          fits = did_now.fits;
          ran = λ log. ran_at files whole nums nums' (row_stored nums (done_by s d)) log log s (out_of (done_by s d)) (out_of (done_by s d)) D
              (e ∙ put_at nums d ∙ put_is nums s d (row_same files whole nums words n c s v.asks still (done_by s d) did_now.did)) refl
              (ran files whole nums words n c s v.asks still (done_by s d) did_now.did log);
        }
