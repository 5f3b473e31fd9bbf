-- Laws: the fresh state over the joined files, and what their reading comes to. Assumes nothing.
use Rattle.std.specs.Prelude.{ℕ, ◌+◌, ◌-◌, ◌*◌, ◌≤◌, ◌<◌, ◌≡◌, List, [], ◌++◌, length, take, drop, get_or}
use Rattle.std.proofs.Common.{zero-add, arith, sym, ap, ◌∙◌, take-take}
use Rattle.text.specs.Ascii.{Bytes}
use Rattle.out.specs.Emit.{emit}
use Rattle.spans.specs.Reach.{reach_held, filed as in_files}
use Rattle.tcl.specs.Join.{join}
use Rattle.tcl.specs.Commands.{commands}
use Rattle.jobindex.specs.Index.{path_at, body_at, rows, Indexed}
use Rattle.jobindex.specs.Rows.{files_same}
use Rattle.joblines.specs.Job.{Job}
use Rattle.jobindex.specs.declared.Header.{Header}
use Rattle.joined.specs.Joined.{bodies, Room, Joined}
use Rattle.joined.specs.Laws.{placed_long, placed_below, placed_front, placed_back, joined_is}
use Rattle.model.specs.Records.{no_records}
use Rattle.model.specs.Within.{nothing_counted}
use Rattle.read.specs.Reading.{read_file, read_commands, reading}
use Rattle.store.specs.Strings.{no_string, span_of}
use Rattle.store.specs.Rows.{store_of, rows_in, words_in}
use Rattle.store.specs.Start.{Fresh, no_store, fresh_view, fresh_shaped, fresh_bounded}
use Rattle.store.specs.declared.state.State.{State}
use Rattle.made.specs.Made.{reach_of}
use Rattle.scopes.specs.declared.go.Out.{Out}
use Rattle.held.specs.Held.{mem_of, model_at, counted_of, Logged, Held, Ran}
use Rattle.loads.specs.Steps.{files_in, file_reads, Texts, Opening}
use Rattle.reader.specs.Whole.{reading_at, Starts, WasRead}

-- of an indexed job, it is the job's reading
pub reading_is : (job : Bytes) (nums : List ℕ) (head : Header) (j : Job) → Indexed job nums head j → reading_at job nums head.files head.startfile ≡ reading j
reading_is job nums head j v =
    let e : files_in job nums head.files ≡ j.files = ap (λ (x : Job). x.files) v.stands in
    rw (e, v.start_is)

module _ (job files₀ area₀ nums₀ : List ℕ) (count first : ℕ) (v : Starts job files₀ area₀ nums₀ count first) where
  pub room : Room job files₀ nums₀ count
  room = record { few = v.few; numbers = omega (arith, v.nums_long); bytes = v.bodies; short = omega (arith, v.files_short) }

  module _ (files nums : List ℕ) (r : ℕ) (w : Joined job files₀ files nums₀ nums count r) (long : length files ≡ length files₀) where
    below : (i : ℕ) → i < 1152 → get_or nums i 0 ≡ get_or nums₀ i 0
    below i h = rw w.places (placed_below job nums₀ count i h)

    nums_same : length nums ≡ length nums₀
    nums_same = rw w.places (placed_long job nums₀ count)

    body_same : (k : ℕ) → k < 32 → body_at job nums k ≡ body_at job nums₀ k
    unfolding body_at
    body_same k h = rw (below (4 * k + 2) (omega arith), below (4 * k + 3) (omega arith))

    path_same : (k : ℕ) → k < 32 → path_at job nums k ≡ path_at job nums₀ k
    unfolding path_at
    path_same k h = rw (below (4 * k) (omega arith), below (4 * k + 1) (omega arith))

    listed_same : files_in job nums count ≡ files_in job nums₀ count
    listed_same = files_same job nums₀ nums count (λ i h. below i (omega (arith, v.few)))

    filed : Texts job files nums count
    filed =
        record {
          few = v.few;
          texts = λ k h. joined_is job files₀ files nums₀ nums count r room w k h ∙ ap join (sym (body_same k (omega (arith, v.few))));
        }

    module _ (s : State) (f : Fresh s) where
      store_is : store_of nums s ≡ no_store
      unfolding rows_in words_in
      store_is = rw f.fill

      at_start : reach_of (length files) no_string ≤ length files + s.fill.end
      at_start = omega (arith, reach_held (length files) (span_of no_string) (in_files (omega arith)))

      held : Held files area₀ nums 0 s
      held =
          record {
            lends = record { files_short = omega (arith, long, v.files_short); area_long = v.area_long; small = omega (arith, long, v.small); nums_long = omega (arith, nums_same, v.nums_long) };
            shaped = rw store_is (fresh_shaped s f);
            bounded = rw store_is (fresh_bounded s f (reach_of (length files)) (length files + s.fill.end) at_start);
            commands = rw f.count (omega arith);
            substituted = rw f.count (omega arith);
            scopes = rw f.count (omega arith);
            entries = rw f.count (omega arith);
            end = rw f.fill (omega arith);
            rows = rw f.fill (omega arith);
            words = rw f.fill (omega arith);
          }

      pub opening : Opening job files area₀ nums count first 16 s
      opening = record { filed = filed; held = held; file = v.start_row; depth = omega arith }

      view_is : model_at files area₀ nums s [] ≡ no_records
      view_is = rw store_is (fresh_view s f (mem_of files area₀ s))

      none_counted : counted_of s ≡ nothing_counted
      none_counted = rw f.count

      start_reads : reading_at job nums₀ count first ≡ read_commands (read_file (files_in job nums₀ count) 15) (path_at job nums₀ first) no_records.variables (commands (join (body_at job nums₀ first))) nothing_counted no_records
      unfolding read_file
      start_reads = rw v.start_is

      reads_is : file_reads job files area₀ nums count first 16 s [] ≡ reading_at job nums₀ count first
      unfolding file_reads
      reads_is =
          rw (listed_same, path_same first (omega (arith, v.start_row, v.few)), filed.texts first v.start_row, body_same first (omega (arith, v.start_row, v.few)), view_is, none_counted)
          (sym start_reads)

      log_start : (log : Bytes) → Logged log log s.fill.log []
      unfolding emit
      log_start log = rw f.fill

      module _ (area nums' log₀ log : List ℕ) (o : Out) (g : Ran files area₀ area nums nums' log₀ log s o (file_reads job files area₀ nums count first 16 s)) where
        low : take 1152 nums' ≡ take 1152 nums₀
        low = sym (take-take 1152 1472 nums' (omega arith)) ∙ ap (take 1152) g.lent.low ∙ take-take 1152 1472 nums (omega arith) ∙ rw w.places (placed_front job nums₀ count)

        high : drop 14656 nums' ≡ drop 14656 nums₀
        high = g.lent.high ∙ rw w.places (placed_back job nums₀ count 14656 (omega (arith, v.few)))

        texts : files ≡ bodies job nums₀ count ++ drop (length (bodies job nums₀ count)) files₀
        texts = w.texts.holds ∙ rw (w.texts.ends, zero-add)

        pub was_read : WasRead job files₀ files area₀ area nums₀ nums' log₀ log count first o
        was_read =
            record {
              comes = rw (← reads_is) (g.reads log₀ [] (log_start log₀));
              held = g.held;
              texts = texts;
              area_back = g.lent.back;
              index = low;
              nums_back = high;
            }
