-- Laws: a load_upf, from what its parts come to. Assumes nothing.
use Rattle.std.specs.Prelude.{Option, Some, None}
use Rattle.store.specs.declared.stored.Stored.{Stored}
use Rattle.std.specs.Prelude.{ℕ, ◌+◌, ◌-◌, ◌≤◌, ◌≡◌, List, ◌++◌, length, take}
use Rattle.std.proofs.Common.{arith, ap, ◌∙◌}
use Rattle.std.proofs.Math.Path.{refl, sym}
use Rattle.text.specs.Ascii.{Bytes}
use Rattle.spans.specs.Span.{bytes, pair_at}
use Rattle.spans.specs.Frame.{known_grows}
use Rattle.jobindex.specs.Index.{path_at}
use Rattle.model.specs.Records.{Model, with_scope, with_design_top}
use Rattle.model.specs.Commands.{given}
use Rattle.model.specs.Names.{load_upf, command_named}
use Rattle.model.specs.Numbers.{named_by}
use Rattle.model.specs.Within.{lists_by, entries_of, total}
use Rattle.read.specs.Reading.{Reading, done, Line, restored}
use Rattle.store.specs.Strings.{string, maybe_of}
use Rattle.store.specs.View.{Store, model_of}
use Rattle.store.specs.Order.{Bounded, of_maybe, end_of}
use Rattle.store.specs.Frame.{string_same, maybe_same}
use Rattle.store.specs.Rows.{store_of}
use Rattle.store.specs.Steps.{scope_shaped, scope_bounded, top_shaped, top_bounded}
use Rattle.store.specs.Added.{scope_set}
use Rattle.store.specs.declared.state.State.{State}
use Rattle.made.specs.Made.{reach_of}
use Rattle.scopes.specs.declared.go.Out.{Out}
use Rattle.scopes.specs.Stops.{tag_of}
use Rattle.held.specs.Grows.{bounded_ends}
use Rattle.held.specs.Held.{mem_of, model_at, counted_of, log_of, Logged, Held, Lent, Comes, Ran}
use Rattle.held.specs.Laws.{with_entries, lent_two}
use Rattle.loads.specs.Steps.{line_at, step_from, counted_out, load_at, files_in, command_reads, file_reads, Doing}
use Rattle.loads.specs.Loads.{restored_by, Loading, Loaded, Opens}
use Rattle.loads.specs.Steps.{Opening}
use Rattle.reader.specs.Command.{comes_refused, refused_is, done_is, reads_is, state_is, counted_held, counted_worded, counted_few}

-- ---- behind a load
restored_view : (mem : Bytes) (st : Store) (s rs : State) (t : Option Stored) (log : Bytes)
    → model_of mem st (restored_by s rs t) log ≡ with_design_top (with_scope (model_of mem st rs log) (string mem s.head.scope)) (given (maybe_of mem t) (model_of mem st rs log).design_top)
unfolding model_of
restored_view mem st s rs None log = refl
restored_view mem st s rs (Some t) log = refl

restored_fill : (s rs : State) (t : Option Stored) → (restored_by s rs t).fill ≡ rs.fill
restored_fill s rs None = refl
restored_fill s rs (Some t) = refl

restored_count : (s rs : State) (t : Option Stored) → (restored_by s rs t).count ≡ rs.count
restored_count s rs None = refl
restored_count s rs (Some t) = refl

module _ (files area nums : List ℕ) (s rs : State) (v : Held files area nums 0 rs) (short : s.head.scope.len ≤ 512) (near : reach_of (length files) s.head.scope ≤ length files + rs.fill.end) where
  scope_held : Held files area nums 0 (scope_set rs s.head.scope)
  scope_held =
      record {
        lends = v.lends;
        shaped = scope_shaped (store_of nums rs) rs v.shaped s.head.scope short;
        bounded = scope_bounded (reach_of (length files)) (length files + rs.fill.end) (store_of nums rs) rs v.bounded s.head.scope near;
        commands = v.commands;
        substituted = v.substituted;
        scopes = v.scopes;
        entries = v.entries;
        end = v.end;
        rows = v.rows;
        words = v.words;
      }

  restored_held : (t : Option Stored) → of_maybe (reach_of (length files)) t ≤ length files + rs.fill.end → Held files area nums 0 (restored_by s rs t)
  restored_held None h = scope_held
  restored_held (Some t) h =
      let w = scope_held in
      record {
        lends = w.lends;
        shaped = top_shaped (store_of nums rs) (scope_set rs s.head.scope) w.shaped (Some t);
        bounded = top_bounded (reach_of (length files)) (length files + rs.fill.end) (store_of nums rs) (scope_set rs s.head.scope) w.bounded (Some t) h;
        commands = w.commands;
        substituted = w.substituted;
        scopes = w.scopes;
        entries = w.entries;
        end = w.end;
        rows = w.rows;
        words = w.words;
      }

no_entries : (c : ℕ) (l : Line) → c ≡ 2 → total (entries_of (lists_by (named_by c) l.name l.rest)) ≡ 0
unfolding total
no_entries c l e = rw e

module _ (job files area nums words : List ℕ) (count n k left : ℕ) (s : State) (v : Doing job files area nums words count n k left s)
    (c : ℕ) (ec : command_named (bytes (mem_of files area s) (pair_at words 0)) ≡ named_by c)
    (x : Out) (ex : x ≡ counted_out s (entries_of (lists_by (named_by c) (line_at files area words n s).name (line_at files area words n s).rest))) (z : tag_of x.stop ≡ 0) (two : c ≡ 2) where
  abbrev reads : Bytes → Reading
  reads text = command_reads job files area nums count words n k left s text

  abbrev ls : List ℕ
  ls = entries_of (lists_by (named_by c) (line_at files area words n s).name (line_at files area words n s).rest)

  same_state : x.state ≡ s
  same_state =
      let q : s.count.entries + total ls ≡ s.count.entries = omega (arith, no_entries c (line_at files area words n s) two) in
      state_is job files area nums words count n k left s v c ec x ex z ∙ ap (with_entries s) q

  pub load_before : Loading job files area nums words count n k left x.state
  load_before =
      record {
        filed = v.filed;
        held = counted_held job files area nums words count n k left s v c ec x ex z;
        worded = counted_worded job files area nums words count n k left s v c ec x ex z;
        named = v.named;
        file = v.file;
        counted = counted_few job files area nums words count n k left s v c ec x ex z;
      }

  step_is : (text : Bytes) → reads text ≡ step_from (load_at (files_in job nums count) left) (path_at job nums k) load_upf (line_at files area words n s) (counted_of s) (model_at files area nums s text)
  step_is text = reads_is job files area nums words count n k left s v c ec text ∙ ap (λ (j : ℕ). step_from (load_at (files_in job nums count) left) (path_at job nums k) (named_by j) (line_at files area words n s) (counted_of s) (model_at files area nums s text)) two

  module _ (area' : List ℕ) (b : Out) (m : ℕ) (w₀ : Loaded job files area area' nums count words n k left x.state b m) where
    w : Loaded job files area area' nums count words n k left s b m
    w = rw same_state at w₀

    lent_first : Lent s.fill.end area area' nums nums
    lent_first = record { kept = w.kept; back = w.back; low = refl; high = refl }

    pub load_refused : (log : List ℕ) → (tag_of b.stop ≡ 0 → ⊥) → Ran files area area' nums nums log log s b reads
    load_refused log h =
        record {
          held = λ q. absurd (h q);
          more = λ q. absurd (h q);
          lent = lent_first;
          reads = λ log₀ text g. comes_refused files area' nums log₀ log b (reads text) h (step_is text ∙ (w.refuses h).is text);
        }

    module _ (h : tag_of b.stop ≡ 0) where
      o : Opens job files area area' nums count words n k left s b m
      o = w.opens h

      pub load_deep : 1 ≤ left
      load_deep = o.deep

      pub load_opening : Opening job files area' nums count m (left - 1) b.state
      load_opening = record { filed = v.filed; held = o.held; file = o.file; depth = omega (arith, v.depth) }

      module _ (area'' nums'' log log'' : List ℕ) (r : Out) (g : Ran files area' area'' nums nums'' log log'' b.state r (file_reads job files area' nums count m (left - 1) b.state)) where
        lent_all : Lent s.fill.end area area'' nums nums''
        lent_all = lent_two s.fill.end b.state.fill.end area area' area'' nums nums nums'' o.more lent_first g.lent

        abbrev d : Bytes → Reading
        d text = file_reads job files area' nums count m (left - 1) b.state text

        comes : (log₀ text : Bytes) → Logged log₀ log s.fill.log text → Comes files area'' nums'' log₀ log'' r (d text)
        comes log₀ text q = g.reads log₀ text (rw o.log q)

        pub load_failed : (tag_of r.stop ≡ 0 → ⊥) → Ran files area area'' nums nums'' log log'' s r reads
        load_failed f =
            record {
              held = λ q. absurd (f q);
              more = λ q. absurd (f q);
              lent = lent_all;
              reads = λ log₀ text q. comes_refused files area'' nums'' log₀ log'' r (reads text) f
                  (step_is text ∙ o.is text ∙ ap (restored (model_at files area nums s text)) (refused_is files area'' nums'' log₀ log'' r (d text) f (comes log₀ text q)));
            }

        module _ (f : tag_of r.stop ≡ 0) (u : State) (eu : u ≡ restored_by s r.state s.head.top) where
          far : s.fill.end ≤ r.state.fill.end
          far = omega (arith, o.more, g.more f)

          ends : Bounded end_of (length files + s.fill.end) (store_of nums s) s
          ends = bounded_ends (length files) (length files + s.fill.end) (store_of nums s) s v.held.bounded

          grown : take (length files + s.fill.end) (mem_of files area'' r.state) ≡ take (length files + s.fill.end) (mem_of files area s)
          grown = known_grows files area area'' s.fill.end r.state.fill.end far lent_all.kept

          scope_back : (text : Bytes) → (model_at files area nums s text).scope ≡ string (mem_of files area'' r.state) s.head.scope
          unfolding model_of
          scope_back text = sym (string_same (length files + s.fill.end) (mem_of files area s) (mem_of files area'' r.state) grown s.head.scope ends.scope)

          top_back_lem : (text : Bytes) → (model_at files area nums s text).design_top ≡ maybe_of (mem_of files area'' r.state) s.head.top
          unfolding model_of
          top_back_lem text = sym (maybe_same (length files + s.fill.end) (mem_of files area s) (mem_of files area'' r.state) grown s.head.top ends.top)

          back_held : Held files area'' nums'' 0 (restored_by s r.state s.head.top)
          back_held =
              restored_held files area'' nums'' s r.state (g.held f) v.held.shaped.scope (omega (arith, v.held.bounded.scope, far)) s.head.top (omega (arith, v.held.bounded.top, far))

          abbrev M : Bytes → Model
          M log = model_at files area'' nums'' r.state log

          abbrev B : Bytes → Model
          B log = with_design_top (with_scope (M log) (string (mem_of files area'' r.state) s.head.scope)) (given (maybe_of (mem_of files area'' r.state) s.head.top) (M log).design_top)

          log_is : (log : Bytes) → (M log).log ≡ log
          unfolding model_of
          log_is log = refl

          reads_to : (log₀ text : Bytes) → Logged log₀ log s.fill.log text → reads text ≡ done (counted_of r.state) (B (log_of (d text)))
          reads_to log₀ text q =
              step_is text ∙ o.is text ∙ ap (restored (model_at files area nums s text)) (done_is files area'' nums'' log₀ log'' r (d text) f (comes log₀ text q)) ∙ rw (scope_back text, top_back_lem text)

          log_to : (log₀ text : Bytes) → Logged log₀ log s.fill.log text → log_of (reads text) ≡ log_of (d text)
          log_to log₀ text q = ap log_of (reads_to log₀ text q) ∙ log_is (log_of (d text))

          view_is : (lg : Bytes) → model_at files area'' nums'' u lg ≡ B lg
          view_is lg =
              let p : u.fill ≡ r.state.fill = ap (λ (t : State). t.fill) eu ∙ restored_fill s r.state s.head.top in
              ap (λ y. model_of (files ++ take y.end area'') (record { rows = (store_of nums'' (record { head = u.head; count = u.count; fill = y; domains = u.domains; nets = u.nets; ports = u.ports; switches = u.switches; isolations = u.isolations; retentions = u.retentions; shifters = u.shifters; portstates = u.portstates; tables = u.tables; variables = u.variables })).rows; words = (store_of nums'' (record { head = u.head; count = u.count; fill = y; domains = u.domains; nets = u.nets; ports = u.ports; switches = u.switches; isolations = u.isolations; retentions = u.retentions; shifters = u.shifters; portstates = u.portstates; tables = u.tables; variables = u.variables })).words }) u lg) p
              ∙ ap (λ (t : State). model_of (mem_of files area'' r.state) (store_of nums'' r.state) t lg) eu
              ∙ restored_view (mem_of files area'' r.state) (store_of nums'' r.state) s r.state s.head.top lg

          count_is : counted_of u ≡ counted_of r.state
          count_is = let p : u.count ≡ r.state.count = ap (λ (t : State). t.count) eu ∙ restored_count s r.state s.head.top in ap (λ y. record { commands = y.commands; substituted = y.substituted; scopes = y.scopes; entries = y.entries }) p

          pub load_done : Ran files area area'' nums nums'' log log'' s (record { stop = None; state = u }) reads
          load_done =
              let e : u.fill.end ≡ r.state.fill.end = ap (λ (t : State). t.fill.end) eu ∙ ap (λ y. y.end) (restored_fill s r.state s.head.top) in
              let a : u.fill.log ≡ r.state.fill.log = ap (λ (t : State). t.fill.log) eu ∙ ap (λ y. y.log) (restored_fill s r.state s.head.top) in
              record {
                held = λ q. rw eu back_held;
                more = λ q. omega (arith, far, e);
                lent = lent_all;
                reads = λ log₀ text q. record {
                  result = (λ i. done (count_is i) (view_is (log_of (reads text)) i)) ∙ ap (λ (lg : Bytes). done (counted_of r.state) (B lg)) (log_to log₀ text q) ∙ sym (reads_to log₀ text q);
                  logged = λ h. rw (a, log_to log₀ text q) ((comes log₀ text q).logged f);
                };
              }
