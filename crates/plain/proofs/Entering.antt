-- Laws: a command that writes neither the area nor the log nor words of states. Assumes nothing.
use Prim.Native.Nat.{ℕ, zero, suc, ◌+◌, ◌-◌, ◌*◌, ◌≤◌}
use Prim.Native.String.{String}
use native.Mathlib.Omega.{arith}
use mathlib.Core.Path.{◌≡◌, refl, sym, ap, ◌∙◌}
use mathlib.Core.Bool.{Bool, true, false, cond}
use mathlib.Core.List.{List, [], ◌∷◌}
use lib.ListN.{length, drop}
use Rattle.text.specs.Ascii.{Bytes}
use Rattle.text.specs.Sames.{no_true}
use Rattle.spans.specs.Span.{bytes, pair_at}
use Rattle.args.specs.View.{words_from}
use Rattle.model.specs.Names.{Named, names}
use Rattle.model.specs.Numbers.{named_in, named_by}
use Rattle.model.specs.Records.{Model}
use Rattle.model.specs.Within.{records_fit}
use Rattle.read.specs.Reading.{done, refused, Line, line_of, acts_by, scopes_by}
use Rattle.store.specs.View.{Store, model_of}
use Rattle.store.specs.Rows.{Packs, store_of}
use Rattle.store.specs.Rowed.{with_row}
use Rattle.store.specs.declared.state.State.{State}
use Rattle.made.specs.declared.Made.{Made}
use Rattle.made.specs.Made.{Ready, Did}
use Rattle.statecmds.specs.Stays.{worded_records, records_stay, unsupported_stays, room_stays}
use Rattle.enter.specs.Entered.{done as carried}
use Rattle.held.specs.Held.{mem_of, model_at, counted_of, Ran}
use Rattle.loads.specs.Steps.{acted, line_at}
use Rattle.loads.specs.Scoped.{line_is_lem}
use Rattle.plain.specs.Asks.{Asks}
use Rattle.plain.specs.Reads.{Steady, steady, acted_is, comes_at}
use Rattle.plain.specs.Stores.{row_stored, out_of}
use Rattle.plain.proofs.Holds.{ready, same_rows, stored_held, stored_lent, stored_comes, made_is, tag_zero}

-- ---- the names that move the scope or load
abbrev pub moves : Named → Bool
moves Named.load_upf = true
moves Named.set_scope = true
moves (Named.other c) = false
moves Named.unknown = false

stills : List (String × Named) → Bool
stills [] = true
stills (x ∷ xs) = cond (moves x.1) false (stills xs)

still_by : (a b : Bool) → cond a false b ≡ true → (a ≡ false) × (b ≡ true)
still_by true b h = absurd (no_true h)
still_by false b h = (refl, h)

still_in : (xs : List (String × Named)) (k : ℕ) → stills xs ≡ true → moves (named_in xs k) ≡ false
unfolding stills
still_in [] k h = refl
still_in (x ∷ xs) zero h = (still_by (moves x.1) (stills xs) h).0
still_in (x ∷ xs) (suc k) h = still_in xs k (still_by (moves x.1) (stills xs) h).1

pub no_move : (c : ℕ) → (c ≡ 2 → ⊥) → (c ≡ 4 → ⊥) → moves (named_by c) ≡ false
unfolding stills
no_move zero h g = refl
no_move (suc zero) h g = refl
no_move (suc (suc zero)) h g = absurd (h refl)
no_move (suc (suc (suc zero))) h g = refl
no_move (suc (suc (suc (suc zero)))) h g = absurd (g refl)
no_move (suc (suc (suc (suc (suc k))))) h g = still_in (drop 5 names) k refl

still_scopes : (x : Named) → moves x ≡ false → (l : Line) (m : Model) → scopes_by x l m ≡ 0
still_scopes Named.load_upf h l m = absurd (no_true (sym h))
still_scopes Named.set_scope h l m = absurd (no_true (sym h))
still_scopes (Named.other c) h l m = refl
still_scopes Named.unknown h l m = refl

still_acts : (x : Named) → moves x ≡ false → (m : Model) (w : Bytes) (ws : List Bytes) → acts_by x m (line_of (w ∷ ws)) ≡ carried x m w ws
still_acts Named.load_upf h m w ws = absurd (no_true (sym h))
still_acts Named.set_scope h m w ws = absurd (no_true (sym h))
still_acts (Named.other c) h m w ws = refl
still_acts Named.unknown h m w ws = refl

still_records : (x : Named) → moves x ≡ false → (m : Model) (w : Bytes) (ws : List Bytes) → worded_records m ≤ worded_records (carried x m w ws)
still_records Named.load_upf h m w ws = absurd (no_true (sym h))
still_records Named.set_scope h m w ws = absurd (no_true (sym h))
still_records (Named.other c) h m w ws = records_stay c m w ws
still_records Named.unknown h m w ws = unsupported_stays m w

-- ---- what such a command comes to, from what it does
module _ (files area nums words : List ℕ) (n c : ℕ) (s : State) (v : Asks files area nums words n c s) (still : moves (named_by c) ≡ false) where
  abbrev mem : Bytes
  mem = mem_of files area s

  abbrev now : Bytes → Model
  now text = model_at files area nums s text

  abbrev left : Bytes → Model
  left text = carried (named_by c) (now text) (bytes mem (pair_at words 0)) (words_from mem words n 1)

  steady_now : Steady files area nums s
  steady_now = steady files area nums s v.held v.counted

  acts : (text : Bytes) → acts_by (named_by c) (now text) (line_at files area words n s) ≡ left text
  acts text = ap (λ (l : List Bytes). acts_by (named_by c) (now text) (line_of l)) (line_is_lem mem words n v.named) ∙ still_acts (named_by c) still (now text) (bytes mem (pair_at words 0)) (words_from mem words n 1)

  pub acted_as : (text : Bytes) → acted (named_by c) (line_at files area words n s) (counted_of s) (now text) ≡ cond (records_fit (left text)) (done (counted_of s) (left text)) (refused 10 s.count.commands)
  acted_as text =
      acted_is files area nums s steady_now (named_by c) (line_at files area words n s) (now text) (still_scopes (named_by c) still (line_at files area words n s) (acts_by (named_by c) (now text) (line_at files area words n s)))
      ∙ ap (λ (t : Model). cond (records_fit t) (done (counted_of s) t) (refused 10 s.count.commands)) (acts text)

  module _ (r : Made) (e : (st : Store) (log : Bytes) → Ready (length files) mem words n st s → Did (length files) mem st log s r (carried (named_by c) (model_of mem st s log) (bytes mem (pair_at words 0)) (words_from mem words n 1))) where
    did : (text : Bytes) → Did (length files) mem (store_of nums s) text s r (left text)
    did text = e (store_of nums s) text (ready files area nums 1 s v.held words n v.worded)

    pub row_packs : Packs r.row
    row_packs = (did []).packs

    pub row_same : r.row.kind ≡ 0 → r.state.fill.rows ≡ s.fill.rows
    row_same = same_rows files area nums s steady_now [] r (left []) (did [])

    words_in_lem : r.tag ≡ 0 → r.state.fill.words ≤ 63 * (r.state.switches.n + r.state.portstates.n)
    words_in_lem z =
        room_stays mem [] (store_of nums s) (with_row (store_of nums s) r.row) s r.state (left []) v.held.shaped (did []).shaped (made_is files area nums s steady_now [] r (left []) (did []) z)
        (still_records (named_by c) still (now []) (bytes mem (pair_at words 0)) (words_from mem words n 1)) (did []).kept.words v.held.words

    pub ran : (log : Bytes) → Ran files area area nums (row_stored nums r) log log s (out_of r) (λ text. acted (named_by c) (line_at files area words n s) (counted_of s) (now text))
    ran log =
        record {
          held = λ h. stored_held files area nums s steady_now [] r (left []) (did []) (tag_zero r.tag h) (words_in_lem (tag_zero r.tag h));
          more = λ h. omega (arith, (did []).kept.end);
          lent = stored_lent files area nums s steady_now [] r (left []) (did []);
          reads = λ log₀ text h. comes_at files area (row_stored nums r) log₀ log (out_of r) (acted (named_by c) (line_at files area words n s) (counted_of s) (now text)) (cond (records_fit (left text)) (done (counted_of s) (left text)) (refused 10 s.count.commands)) (acted_as text)
              (stored_comes files area nums s steady_now text r (left text) (did text) log₀ log h);
        }
