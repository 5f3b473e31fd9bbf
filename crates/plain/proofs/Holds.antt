-- Laws: what a command leaves that writes neither the area nor the log. Assumes nothing.
use Prim.Native.Nat.{ℕ, ◌+◌, ◌-◌, ◌*◌, ◌≤◌, ◌<◌}
use native.Mathlib.Omega.{arith}
use mathlib.Core.Path.{◌≡◌, refl, sym, ap, ◌∙◌}
use mathlib.Core.Bool.{Bool, true, false, cond}
use mathlib.Core.List.{List, [], ◌∷◌, ◌++◌}
use Rattle.std.specs.Prelude.{None, Some}
use lib.Dec.{eqb}
use lib.ListN.{length, take, length-append}
use lib.Seq.{length-take-le}
use borrow.Author.Tests.{eq-eqb, ne_eqb, eqb-true, eqb-false}
use Rattle.text.specs.Ascii.{Bytes}
use Rattle.out.specs.Emit.{◌▸◌, emit}
use Rattle.spans.specs.Span.{pairs}
use Rattle.spans.specs.Reach.{span_end, last_of, reach, reach_end}
use Rattle.spans.specs.declared.span.Span.{Span}
use Rattle.model.specs.Records.{Model}
use Rattle.model.specs.Within.{records_fit}
use Rattle.read.specs.Reading.{Reading, done, refused}
use Rattle.store.specs.View.{Store, model_of}
use Rattle.store.specs.Order.{Shaped, Bounded}
use Rattle.store.specs.Rows.{row_put_lem, rows_in, words_in, store_of, rows_put, words_kept}
use Rattle.store.specs.Rowed.{rowed, with_row}
use Rattle.store.specs.declared.state.State.{State}
use Rattle.made.specs.declared.Made.{Made}
use Rattle.made.specs.Made.{Line as Words-as-Line, Ready, Did, reach_of}
use Rattle.scopes.specs.declared.go.Out.{Out}
use Rattle.scopes.specs.declared.go.Stop.TheVariants as stop
use Rattle.scopes.specs.Stops.{tag_of}
use Rattle.held.specs.Held.{mem_of, model_at, counted_of, Logged, Held, Worded, Lent, Comes, Ran}
use Rattle.plain.specs.Reads.{Steady, model_log, cond_true, cond_false, reading_done, reading_refused}
use Rattle.plain.specs.Stores.{row_stored, out_of}
use Rattle.plain.proofs.Rows.{rows_length, stored_long, stored_low, stored_high}

-- ---- what a command asks
last_span : (long : ℕ) (ss : List Span) → last_of span_end ss ≤ last_of (reach long) ss
unfolding last_of
last_span long [] = omega arith
last_span long (s ∷ ss) = omega (arith, reach_end long s, last_span long ss)

module _ (files area nums : List ℕ) (k : ℕ) (s : State) (v : Held files area nums k s) where
  pub end_in_lem : s.fill.end ≤ length area
  end_in_lem = omega (arith, v.end, v.substituted, v.scopes, v.lends.area_long)

  pub known_long : length (mem_of files area s) ≡ length files + s.fill.end
  known_long = length-append files (take s.fill.end area) ∙ ap (λ (j : ℕ). length files + j) (length-take-le s.fill.end area end_in_lem)

  module _ (words : List ℕ) (n : ℕ) (w : Worded files words n s) where
    pub ready : Ready (length files) (mem_of files area s) words n (store_of nums s) s
    ready =
        record {
          shaped = v.shaped;
          bounded = rw known_long v.bounded;
          line = omega (arith, w, known_long);
          small = omega (arith, known_long, v.lends.files_short, v.end, v.substituted, v.scopes);
        }

    pub room : Words-as-Line words n
    room = omega (arith, last_span (length files) (pairs words 0 n), w, v.lends.small, end_in_lem)

shaped_at : (st st' : Store) (s : State) → st ≡ st' → Shaped st' s → Shaped st s
shaped_at st st' s e v = rw e v

bounded_at : (long n n' : ℕ) (st st' : Store) (s : State) → st ≡ st' → n ≡ n' → Bounded (reach_of long) n' st' s → Bounded (reach_of long) n st s
bounded_at long n n' st st' s e f v = rw (e, f) v

-- ---- its answer, with the row in the store
module _ (files area nums : List ℕ) (s : State) (v : Steady files area nums s) (log : Bytes) (r : Made) (t : Model) (d : Did (length files) (mem_of files area s) (store_of nums s) log s r t) where
  pub same_rows : r.row.kind ≡ 0 → r.state.fill.rows ≡ s.fill.rows
  same_rows z =
      let a : with_row (store_of nums s) r.row ≡ store_of nums s = cond_true (eqb r.row.kind 0) (store_of nums s) (rowed (store_of nums s) r.row) (eq-eqb r.row.kind 0 z) in
      d.shaped.rows ∙ ap (λ (st : Store). length st.rows) a ∙ rows_length nums s.fill.rows

  more_rows : (r.row.kind ≡ 0 → ⊥) → r.state.fill.rows ≡ s.fill.rows + 1
  more_rows z =
      let a : with_row (store_of nums s) r.row ≡ rowed (store_of nums s) r.row = cond_false (eqb r.row.kind 0) (store_of nums s) (rowed (store_of nums s) r.row) (ne_eqb r.row.kind 0 z) in
      omega (arith, d.shaped.rows ∙ ap (λ (st : Store). length st.rows) a, length-append (rows_in nums s.fill.rows) (r.row ∷ []), rows_length nums s.fill.rows)

  few_rows : r.state.fill.rows ≤ s.fill.rows + 1
  few_rows = go (eqb r.row.kind 0) refl
    where
      go : (b : Bool) → eqb r.row.kind 0 ≡ b → r.state.fill.rows ≤ s.fill.rows + 1
      go true q = omega (arith, same_rows (eqb-true r.row.kind 0 q))
      go false q = omega (arith, more_rows (eqb-false r.row.kind 0 q))

  store_by : (b : Bool) → eqb r.row.kind 0 ≡ b → store_of (cond b nums (row_put_lem nums (r.state.fill.rows - 1) r.row)) r.state ≡ cond b (store_of nums s) (rowed (store_of nums s) r.row)
  store_by true q = λ i. record { rows = ap (rows_in nums) (same_rows (eqb-true r.row.kind 0 q)) i; words = ap (words_in nums) d.kept.words i }
  store_by false q =
      let e : r.state.fill.rows ≡ s.fill.rows + 1 = more_rows (eqb-false r.row.kind 0 q) in
      let f : r.state.fill.rows - 1 ≡ s.fill.rows = omega arith in
      let g : s.fill.rows < 1024 = omega (arith, v.rows, v.commands) in
      let a : rows_in (row_put_lem nums (r.state.fill.rows - 1) r.row) r.state.fill.rows ≡ rows_in nums s.fill.rows ++ (r.row ∷ []) =
      ap (λ (k : ℕ). rows_in (row_put_lem nums k r.row) r.state.fill.rows) f
      ∙ ap (rows_in (row_put_lem nums s.fill.rows r.row)) e
      ∙ rows_put nums s.fill.rows r.row (omega (arith, v.lends.nums_long)) d.packs in
      let b : words_in (row_put_lem nums (r.state.fill.rows - 1) r.row) r.state.fill.words ≡ words_in nums s.fill.words =
      words_kept nums (r.state.fill.rows - 1) r.row (omega arith) r.state.fill.words ∙ ap (words_in nums) d.kept.words in
      λ i. record { rows = a i; words = b i }

  store_is : r.tag ≡ 0 → store_of (row_stored nums r) r.state ≡ with_row (store_of nums s) r.row
  store_is z =
      ap (λ (b : Bool). store_of (cond b (cond (eqb r.row.kind 0) nums (row_put_lem nums (r.state.fill.rows - 1) r.row)) nums) r.state) (eq-eqb r.tag 0 z)
      ∙ store_by (eqb r.row.kind 0) refl

  mem_long : length (mem_of files area s) ≡ length files + s.fill.end
  mem_long = length-append files (take s.fill.end area) ∙ ap (λ (j : ℕ). length files + j) (length-take-le s.fill.end area (omega (arith, v.end, v.substituted, v.scopes, v.lends.area_long)))

  pub stored_held : r.tag ≡ 0 → r.state.fill.words ≤ 63 * (r.state.switches.n + r.state.portstates.n) → Held files area (row_stored nums r) 0 r.state
  stored_held z h =
      record {
        lends = record { files_short = v.lends.files_short; area_long = v.lends.area_long; small = v.lends.small; nums_long = omega (arith, stored_long nums r, v.lends.nums_long) };
        shaped = shaped_at (store_of (row_stored nums r) r.state) (with_row (store_of nums s) r.row) r.state (store_is z) d.shaped;
        bounded = bounded_at (length files) (length files + r.state.fill.end) (length (mem_of files area s)) (store_of (row_stored nums r) r.state) (with_row (store_of nums s) r.row) r.state (store_is z) (ap (λ (j : ℕ). length files + j) d.kept.end ∙ sym mem_long) d.bounded;
        commands = omega (arith, ap (λ x. x.commands) d.kept.count, v.commands);
        substituted = omega (arith, ap (λ x. x.substituted) d.kept.count, v.substituted);
        scopes = omega (arith, ap (λ x. x.scopes) d.kept.count, v.scopes);
        entries = omega (arith, ap (λ x. x.entries) d.kept.count, v.entries);
        end = omega (arith, d.kept.end, ap (λ x. x.substituted) d.kept.count, ap (λ x. x.scopes) d.kept.count, v.end);
        rows = omega (arith, few_rows, ap (λ x. x.commands) d.kept.count, v.rows);
        words = h;
      }

  pub stored_lent : Lent s.fill.end area area nums (row_stored nums r)
  stored_lent = record { kept = refl; back = refl; low = stored_low nums r; high = stored_high nums r (omega (arith, few_rows, v.rows, v.commands)) }

  -- what stood in the log is there
  log_is : model_of (mem_of files area s) (with_row (store_of nums s) r.row) r.state log ≡ t → t.log ≡ log
  log_is e = sym (ap (λ (m : Model). m.log) e) ∙ model_log (mem_of files area s) (with_row (store_of nums s) r.row) r.state log

  model_is : r.tag ≡ 0 → model_of (mem_of files area s) (with_row (store_of nums s) r.row) r.state log ≡ t → model_at files area (row_stored nums r) r.state t.log ≡ t
  model_is z e =
      ap (λ (k : ℕ). model_of (files ++ take k area) (store_of (row_stored nums r) r.state) r.state t.log) d.kept.end
      ∙ ap (λ (st : Store). model_of (mem_of files area s) st r.state t.log) (store_is z)
      ∙ ap (model_of (mem_of files area s) (with_row (store_of nums s) r.row) r.state) (log_is e)
      ∙ e

  counted_same : counted_of r.state ≡ counted_of s
  counted_same = ap (λ x. record { commands = x.commands; substituted = x.substituted; scopes = x.scopes; entries = x.entries }) d.kept.count

  comes_by : (log₀ buf : Bytes) → Logged log₀ buf s.fill.log log → (a b : Bool) → eqb r.tag 0 ≡ a → records_fit t ≡ b → cond a (Some (model_of (mem_of files area s) (with_row (store_of nums s) r.row) r.state log)) None ≡ cond b (Some t) None
      → Comes files area (row_stored nums r) log₀ buf (out_of r) (cond b (done (counted_of s) t) (refused 10 s.count.commands))
  comes_by log₀ buf h true true p q e =
      let z : r.tag ≡ 0 = eqb-true r.tag 0 p in
      let m : model_of (mem_of files area s) (with_row (store_of nums s) r.row) r.state log ≡ t = cc in
      record {
        result = reading_done files area (row_stored nums r) t.log (out_of r) (counted_of s) t (ap (λ (x : Bool). tag_of (cond x None (Some stop.PastLimit))) p) counted_same (model_is z m);
        logged = λ y. ap (λ (k : ℕ). buf ▸ k) d.kept.log ∙ h ∙ ap (emit (log₀ ▸ 0)) (sym (log_is m));
      }
  comes_by log₀ buf h true false p q e = absurd (let z : ◌≡◌ {A = ℕ} 0 1 = cc in omega arith)
  comes_by log₀ buf h false true p q e = absurd (let z : ◌≡◌ {A = ℕ} 0 1 = cc in omega arith)
  comes_by log₀ buf h false false p q e =
      let y : tag_of (out_of r).stop ≡ 10 = ap (λ (x : Bool). tag_of (cond x None (Some stop.PastLimit))) p in
      record {
        result = reading_refused files area (row_stored nums r) [] (out_of r) s.count.commands y (ap (λ x. x.commands) d.kept.count);
        logged = λ z. absurd (omega (arith, y, z));
      }

  pub stored_comes : (log₀ buf : Bytes) → Logged log₀ buf s.fill.log log → Comes files area (row_stored nums r) log₀ buf (out_of r) (cond (records_fit t) (done (counted_of s) t) (refused 10 s.count.commands))
  stored_comes log₀ buf h = comes_by log₀ buf h (eqb r.tag 0) (records_fit t) refl refl d.result

  pub made_is : r.tag ≡ 0 → model_of (mem_of files area s) (with_row (store_of nums s) r.row) r.state log ≡ t
  made_is z = go (records_fit t) (sym (cond_true (eqb r.tag 0) (Some (model_of (mem_of files area s) (with_row (store_of nums s) r.row) r.state log)) None (eq-eqb r.tag 0 z)) ∙ d.result)
    where
      go : (b : Bool) → Some (model_of (mem_of files area s) (with_row (store_of nums s) r.row) r.state log) ≡ cond b (Some t) None → model_of (mem_of files area s) (with_row (store_of nums s) r.row) r.state log ≡ t
      go true e = cc
      go false e = absurd (let y : ◌≡◌ {A = ℕ} 0 1 = cc in omega arith)

-- ---- the answer with its row
pub tag_zero : (k : ℕ) → ◌≡◌ {A = ℕ} (tag_of (cond (eqb k 0) None (Some stop.PastLimit))) 0 → k ≡ 0
tag_zero k e = go (eqb k 0) refl e
  where
    go : (b : Bool) → eqb k 0 ≡ b → ◌≡◌ {A = ℕ} (tag_of (cond b None (Some stop.PastLimit))) 0 → k ≡ 0
    go true q h = eqb-true k 0 q
    go false q h = absurd (omega arith)

pub ran_at : (files area nums₀ nums nums' log₁ log : List ℕ) (s : State) (o o' : Out) (D : Bytes → Reading) → nums ≡ nums' → o ≡ o' → Ran files area area nums₀ nums' log₁ log s o' D → Ran files area area nums₀ nums log₁ log s o D
ran_at files area nums₀ nums nums' log₁ log s o o' D e f v = rw (e, f) v
