-- Theorem: what the strategies gain is what the definitions isolate. Stored records in order give what is asked. Assumes nothing.
use Rattle.std.specs.Prelude.{ℕ, ◌+◌, ◌≤◌, ◌<◌, ◌^◌, min, ◌≡◌, Bool, false, cond, List, [], ◌∷◌, ◌++◌, map, length, take}
use Rattle.std.proofs.Common.{arith, zero-add, sym, subst, ◌∙◌}
use Rattle.std.proofs.Math.Path.{ap}
use Rattle.std.proofs.lemmas.List.{length-map}
use Rattle.text.specs.Ascii.{Bytes}
use Rattle.out.specs.Emit.{◌▸◌, emit}
use Rattle.out.specs.Items.{each}
use Rattle.joblines.specs.Job.{Module}
use Rattle.jobindex.specs.Index.{module_row}
use Rattle.lookup.specs.Rows.{modules}
use Rattle.model.specs.Records.{Domain as Domainʳ, Isolation as Isolationʳ}
use Rattle.store.specs.View.{domain_of, isolation_of, model_of}
use Rattle.store.specs.Tables.{sized_length}
use Rattle.store.specs.declared.state.State.{State}
use Rattle.setting.specs.Stands.{Stands}
use Rattle.setting.specs.Orders.{Orders, isolations_hold, domains_hold}
use Rattle.domainlists.specs.Seen.{within_map, elements_few}
use Rattle.texts.specs.Setting.{Setting}
use Rattle.texts.specs.Texts.{warning_line}
use Rattle.texts.specs.Isolation as texts
use Rattle.isolated.specs.Table.{Kept}
use Rattle.isolated.specs.Laws.{kept_long}
use Rattle.keep.specs.Gains.{Gain}
use Rattle.keep.specs.Covered.{Answer}
use Rattle.keep.specs.Turns.{counted_is}
use Rattle.keep.specs.declared.Cover.{Cover}
use Rattle.cover.specs.Covering as covering
use Rattle.alike.specs.Strategies.{no_isolation, strategy_at}
use Rattle.alike.specs.Shown.{shown, shown_by_lem, strategy_in}
use Rattle.alike.specs.Ruled.{ruled_by}
use Rattle.strategies.specs.Gains.{isolation_gain}
use Rattle.strategies.specs.Isolates.{ShownAll, isolation_is}
use Rattle.isolation.specs.Asked.{OfIsolation, start_at, Isolated}
use Rattle.isolation.specs.Rules.{From, from_here, from_next, all_ruled}

-- ---- every strategy is shown as the definitions do

shown_from : (s : Setting) (f : ℕ → Isolationʳ) (z : Isolationʳ) (n : ℕ) (is : List Isolationʳ) → From f n is z → ShownAll s (shown s.scope s.top f) n is
shown_from s f z n [] g = tt
shown_from s f z n (i ∷ is) g =
    (record { by = λ sig h t w. shown_by_lem s f n i sig (from_here f n i is z g) h t w }, shown_from s f z (n + 1) is (from_next f n i is z g))

module _ (job : Bytes) (nums : List ℕ) (count k : ℕ) (files area over : Bytes) (from : ℕ) (top : Bytes) (s : State) (t : Setting) (st : Stands job nums count k files area over from top s t) (o : Orders files area nums s) where
  abbrev mem : Bytes
  mem = files ++ area

  abbrev is : List Isolationʳ
  is = map (isolation_of mem) (take s.isolations.n s.isolations.all)

  abbrev gain : Gain
  gain = isolation_gain (modules job nums count) (module_row job nums k) (map (domain_of mem) (take s.domains.n s.domains.all)) is []

  abbrev show : Kept → texts.Isolated
  show = shown t.scope t.top (strategy_at mem s.isolations)

  long : length is ≡ s.isolations.n
  long = sized_length (isolation_of mem) o.shaped.isolations

  strategies_from : From (strategy_at mem s.isolations) 0 is (isolation_of mem no_isolation)
  strategies_from = record { at = λ j h. rw (zero-add j) (sym (strategy_in mem s.isolations j (omega (arith, long, h)))) }

  isolations_are : t.records.isolations ≡ is
  unfolding model_of
  isolations_are = ap (λ r. r.isolations) st.records_are

  domains_are : t.records.domains ≡ map (domain_of mem) (take s.domains.n s.domains.all)
  unfolding model_of
  domains_are = ap (λ r. r.domains) st.records_are

  whole : texts.isolation t ≡ covering.shown show texts.no_cover gain
  whole =
      isolation_is t show (subst (λ (l : List Isolationʳ). ShownAll t show 0 l) (sym isolations_are) (shown_from t (strategy_at mem s.isolations) (isolation_of mem no_isolation) 0 is strategies_from))
      ∙ ap (λ (d : List Module). covering.shown show texts.no_cover (isolation_gain d t.base t.records.domains t.records.isolations [])) st.design_is
      ∙ ap (λ (m : Module). covering.shown show texts.no_cover (isolation_gain (modules job nums count) m t.records.domains t.records.isolations [])) st.base_is
      ∙ ap (λ (ds : List Domainʳ). covering.shown show texts.no_cover (isolation_gain (modules job nums count) (module_row job nums k) ds t.records.isolations [])) domains_are
      ∙ ap (λ (l : List Isolationʳ). covering.shown show texts.no_cover (isolation_gain (modules job nums count) (module_row job nums k) (map (domain_of mem) (take s.domains.n s.domains.all)) l [])) isolations_are

  ports_is : (texts.isolation t).ports ≡ map show gain.rows
  ports_is = ap (λ (c : texts.Cover). c.ports) whole

  many : length (texts.isolation t).ports ≡ length gain.rows
  many = ap length ports_is ∙ length-map gain.rows show

  pub isolated_told : (warn : Bool) (at : ℕ) (out₀ : Bytes) (r : Cover) (out : Bytes) (ports : List ℕ) → Answer job mem warn (start_at at) out₀ gain r out ports → Isolated t job mem s.isolations warn (out₀ ▸ at) out ports r
  isolated_told warn at out₀ r out ports a =
      record {
        over = λ h. omega (arith, many, a.refused h);
        few = λ h. omega (arith, many, count_is h, (a.ready h).few);
        ports_are = λ h. ap (map show) (a.rows h) ∙ sym ports_is;
        ruled = λ h. ruled_by job mem s.isolations ports r.ports (a.ready h).few (rw (a.rows h) (all_ruled (strategy_at mem s.isolations) (isolation_of mem no_isolation) (modules job nums count) (module_row job nums k) (map (domain_of mem) (take s.domains.n s.domains.all)) is strategies_from (omega (arith, long, o.shaped.isolations.count))));
        count = λ h. a.warnings h ∙ counted_is 0 gain.remarks (omega arith) ∙ ap (λ (n : ℕ). min n 513) (zero-add (length gain.remarks)) ∙ ap (λ (c : texts.Cover). min (length c.warnings) 513) (sym whole);
        text = λ h. a.text h ∙ ap (λ (c : texts.Cover). emit (out₀ ▸ at) (cond warn (each warning_line c.warnings) c.report)) (sym whole);
      }
    where
      count_is : r.over ≡ false → length gain.rows ≡ r.ports
      count_is h = ap length (sym (a.rows h)) ∙ kept_long job mem ports 0 r.ports

-- ---- what is asked

pub orders_isolation : (job : Bytes) (nums : List ℕ) (count k : ℕ) (files area : Bytes) (s : State) → Orders files area nums s → count ≤ 128 → k < count → length job < 2 ^ 32 → length files + length area < 2 ^ 31 → OfIsolation job files area count k s.isolations s.domains
unfolding model_of
orders_isolation job nums count k files area s o few row job_small small =
    record {
      few = few;
      row = row;
      job_small = job_small;
      small = small;
      strategies = isolations_hold files area nums s o;
      domains = domains_hold files area nums s o;
      own_few = within_map (λ (i : Isolationʳ). length i.elements) (isolation_of (files ++ area)) 64 (take s.isolations.n s.isolations.all) o.few.isolations;
      domains_few = elements_few files area nums s o;
    }
