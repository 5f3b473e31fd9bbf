-- The texts of one domain: laws as the needs ask them. Assumes nothing.
use Rattle.store.specs.declared.state.Few.{Few}
use Rattle.store.specs.declared.state.Isolation.{Isolation}
use Rattle.store.specs.declared.state.Retention.{Retention}
use Rattle.std.specs.Prelude.{Option, Some, None, Result, Ok, Err, is_err}
use Prim.Native.Nat.{ℕ, ◌≤◌}
use mathlib.Core.Path.{◌≡◌, refl, sym, ap, ◌∙◌}
use mathlib.Core.Bool.{Bool, true, false, not}
use mathlib.Core.List.{List, [], ◌++◌, map, Memᴰ as Mem}
use native.Mathlib.Omega.{arith}
use lib.ListN.{length, take}
use Rattle.text.specs.Ascii.{Bytes}
use Rattle.text.specs.Sames.{no_true}
use Rattle.out.specs.Emit.{Out, ◌▸◌, emit}
use Rattle.out.specs.Items.{each}
use Rattle.joblines.specs.Job.{Module}
use Rattle.jobindex.specs.Index.{module_row}
use Rattle.lookup.specs.Rows.{modules}
use Rattle.names.specs.Name.{name_of}
use Rattle.names.specs.declared.name.Name.{Name}
use Rattle.nametable.specs.Table.{table_names}
use Rattle.design.specs.Paths.{retained_path}
use Rattle.walk.specs.Walk.{domain_list, walk_fits}
use Rattle.listing.specs.Listing.{paths_of}
use Rattle.corrupt.specs.RowMem.{row_mem}
use Rattle.scope.specs.Parts.{parts}
use Rattle.pathlines.specs.Lines.{below}
use Rattle.pathlines.specs.Lost.{parts_bare}
use Rattle.texts.specs.Setting.{Setting}
use Rattle.texts.specs.Domains.{retained_entries, lost_paths, powered_glue, powered_line, unpowered_line, with_supplies, domain_glue, domain_line, domain_fits}
use Rattle.store.specs.Strings.{string, below_of}
use Rattle.store.specs.View.{isolation_of, domain_of, model_of}
use Rattle.store.specs.Rows.{store_of}
use Rattle.store.specs.declared.stored.Below.{Below}
use Rattle.store.specs.declared.state.Domain.{Domain}
use Rattle.store.specs.declared.state.State.{State}
use Rattle.setting.specs.Stands.{Stands}
use Rattle.isolated.specs.Table.{kept_in}
use Rattle.alike.specs.Strategies.{strategy_at}
use Rattle.alike.specs.Shown.{shown}
use Rattle.checks.specs.Sorted.{check_text, own_in}
use Rattle.domainlists.specs.Lists.{own_entries}
use Rattle.domainlists.specs.Seen.{all_entries_lem}
use Rattle.domainline.specs.Lines.{powered_text, unpowered_text}
use Rattle.domainglue.specs.Glue.{glue_text, OfGlue, glue_is}
use Rattle.domainreport.specs.Reports.{OfReport, orders_report, report_is}
use Rattle.listing.specs.declared.TooMany.{TooMany}
use Rattle.domainpaths.specs.Losses.{OfWalk, Lost, Loses, loses_over, loses_paths, loses_room, loses_count}
use Rattle.domainpaths.specs.declared.Loss.{Loss}
use Rattle.domainpaths.specs.declared.Passed.{Passed}
use Rattle.domains.specs.declared.Told.{Told}
use Rattle.domains.specs.Told.{OfDomains, WalkRoom, shown_ports}
use Rattle.domains.specs.One.{OfOne, OfTexts, Texts, Bare, Tells, SuppliedTold, OneTold}

-- ---- a text over a buffer

-- ---- the texts, by names

pub texts_glue : (files area : Bytes) (xs : Few Isolation) (rs : Few Retention) (ports : List ℕ) (isolated m : ℕ) (ends : List ℕ) (n : ℕ) → OfTexts files area xs rs ports isolated m ends n → OfGlue (files ++ area) xs ports isolated × (n ≤ length ends)
texts_glue files area xs rs ports isolated m ends n h = (h.glue, h.paths)

pub texts_report : (files area : Bytes) (xs : Few Isolation) (rs : Few Retention) (ports : List ℕ) (isolated m : ℕ) (ends : List ℕ) (n : ℕ) → OfTexts files area xs rs ports isolated m ends n → OfReport files area rs × (m ≤ 65536)
texts_report files area xs rs ports isolated m ends n h = (h.report, h.elements)

pub texts_are : (mem : Bytes) (scope : List Bytes) (xs : Few Isolation) (rs : Few Retention) (ports : List ℕ) (isolated : ℕ) (d : Domain) (p q : Below) (elements paths : List Bytes) (n : ℕ) (g : Out) (glue : Bytes) (o : Out) (report : Bytes) (x y : Name) (a b : ℕ)
    → name_of mem x ≡ below_of mem p → name_of mem y ≡ below_of mem q
    → glue ▸ a ≡ emit g (glue_text (string mem d.name) (name_of mem x) (name_of mem y) (each (check_text scope (strategy_at mem xs) (string mem d.name)) (own_in mem xs d.name ports isolated)) paths)
    → report ▸ b ≡ emit o (powered_text (string mem d.name) elements (name_of mem x) (name_of mem y) n (map (retained_path scope) (own_entries mem rs d.name)))
    → Texts mem scope xs rs ports isolated d p q elements paths n g glue o report (record { glue = a; report = b })
texts_are mem scope xs rs ports isolated d p q elements paths n g glue o report x y a b ex ey eg er =
    record {
      glue_is =
          eg
          ∙ ap (λ (z : Bytes). emit g (glue_text (string mem d.name) z (name_of mem y) (each (check_text scope (strategy_at mem xs) (string mem d.name)) (own_in mem xs d.name ports isolated)) paths)) ex
          ∙ ap (λ (z : Bytes). emit g (glue_text (string mem d.name) (below_of mem p) z (each (check_text scope (strategy_at mem xs) (string mem d.name)) (own_in mem xs d.name ports isolated)) paths)) ey;
      report_is =
          er
          ∙ ap (λ (z : Bytes). emit o (powered_text (string mem d.name) elements z (name_of mem y) n (map (retained_path scope) (own_entries mem rs d.name)))) ex
          ∙ ap (λ (z : Bytes). emit o (powered_text (string mem d.name) elements (below_of mem p) z n (map (retained_path scope) (own_entries mem rs d.name)))) ey;
    }

pub bare_line : (mem : Bytes) (d : Domain) (g : ℕ) (o : Out) (report : Bytes) (b : ℕ) → report ▸ b ≡ emit o (unpowered_text (string mem d.name)) → Bare mem d g o report (record { glue = g; report = b })
bare_line mem d g o report b e = record { glue_is = refl; report_is = e }

-- ---- the texts by the definitions

glue_told : (mem : Bytes) (xs : Few Isolation) (t : Setting) (d : Domain) → t.records.isolations ≡ map (isolation_of mem) (take xs.n xs.all) → (job : Bytes) (ports : List ℕ) (n : ℕ) (power ground_net : Bytes) (o : Out) (scope paths : List Bytes) → t.scope ≡ scope → paths ≡ lost_paths t (domain_of mem d)
    → emit o (glue_text (string mem d.name) power ground_net (each (check_text scope (strategy_at mem xs) (string mem d.name)) (own_in mem xs d.name ports n)) paths) ≡ emit o (powered_glue t (map (shown t.scope t.top (strategy_at mem xs)) (kept_in job mem ports n)) (domain_of mem d) power ground_net)
unfolding domain_of
glue_told mem xs t d are job ports n power ground_net o scope paths es ep =
    ap (λ (l : List Bytes). emit o (glue_text (string mem d.name) power ground_net (each (check_text scope (strategy_at mem xs) (string mem d.name)) (own_in mem xs d.name ports n)) l)) ep
    ∙ ap (λ (l : List Bytes). emit o (glue_text (string mem d.name) power ground_net (each (check_text l (strategy_at mem xs) (string mem d.name)) (own_in mem xs d.name ports n)) (lost_paths t (domain_of mem d)))) (sym es)
    ∙ glue_is mem xs t d.name (domain_of mem d) refl are job ports n power ground_net o

line_told : (mem : Bytes) (nums : List ℕ) (s : State) (log : Bytes) (t : Setting) (d : Domain) → t.records ≡ model_of mem (store_of nums s) s log → (power ground_net : Bytes) (o : Out) (scope elements : List Bytes) (n : ℕ) → t.scope ≡ scope → elements ≡ (domain_of mem d).elements → n ≡ length (lost_paths t (domain_of mem d))
    → emit o (powered_text (string mem d.name) elements power ground_net n (map (retained_path scope) (own_entries mem s.retentions d.name))) ≡ emit o (powered_line t (domain_of mem d) power ground_net)
line_told mem nums s log t d e power ground_net o scope elements n es ee en =
    ap (λ (l : List Bytes). emit o (powered_text (string mem d.name) l power ground_net n (map (retained_path scope) (own_entries mem s.retentions d.name)))) ee
    ∙ ap (λ (m : ℕ). emit o (powered_text (string mem d.name) (domain_of mem d).elements power ground_net m (map (retained_path scope) (own_entries mem s.retentions d.name)))) en
    ∙ ap (λ (l : List Bytes). emit o (powered_text (string mem d.name) (domain_of mem d).elements power ground_net (length (lost_paths t (domain_of mem d))) (map (retained_path l) (own_entries mem s.retentions d.name)))) (sym es)
    ∙ ap (emit o) (report_is mem (store_of nums s) s log t d power ground_net e)

fits_same : (d d' : List Module) (base base' : Module) (scope scope' entries entries' es : List Bytes) → d ≡ d' → base ≡ base' → scope ≡ scope' → entries ≡ entries' → walk_fits d base scope entries es ≡ walk_fits d' base' scope' entries' es
fits_same d d' base base' scope scope' entries entries' es a b c e = rw (a, b, c, e)

list_same : (d d' : List Module) (base base' : Module) (scope scope' entries entries' es : List Bytes) → d ≡ d' → base ≡ base' → scope ≡ scope' → entries ≡ entries' → domain_list d base scope entries es ≡ domain_list d' base' scope' entries' es
list_same d d' base base' scope scope' entries entries' es a b c e = rw (a, b, c, e)

isolations_are : (mem : Bytes) (nums : List ℕ) (s : State) (log : Bytes) (t : Setting) → t.records ≡ model_of mem (store_of nums s) s log → t.records.isolations ≡ map (isolation_of mem) (take s.isolations.n s.isolations.all)
unfolding model_of
isolations_are mem nums s log t e = rw e

not_false : (b : Bool) → false ≡ not b → b ≡ true
not_false true e = refl
not_false false e = absurd (no_true e)

not_true : (b : Bool) → true ≡ not b → b ≡ false
not_true true e = absurd (no_true (sym e))
not_true false e = refl

-- ---- a domain with both supplies

module _ (job : Bytes) (nums : List ℕ) (count k : ℕ) (table : List ℕ) (files area path : Bytes) (from prefix : ℕ) (s : State) (retained : List ℕ) (kept : ℕ) (ports : List ℕ) (isolated : ℕ) (h : OfDomains job nums count k table files area path from prefix s retained kept ports isolated) (d : Domain) where
  -- what its walk asks
  pub walk_asked : (tail text : Bytes) (ends : List ℕ) → OfOne files area d → WalkRoom tail text ends → OfWalk job nums count k table files area kept d prefix tail text ends
  walk_asked tail text ends g w =
      record {
        few = h.few;
        row = h.row;
        job_small = h.job_small;
        small = h.orders.small;
        kept_few = omega (arith, h.kept_few);
        prefix_small = h.prefix_small;
        tail_long = w.tail_long;
        text_long = w.text_long;
        ends_long = w.ends_long;
        short = h.short;
        tabled = h.tabled;
        strings = g.strings;
        elements_few = g.few;
      }

  module _ (elements : List ℕ) (text : Bytes) (ends : List ℕ) where
    at_row : Mem (module_row job nums k) (modules job nums count)
    at_row = row_mem (module_row job nums) count k h.row

    abbrev Ends : Loss → Type 0
    Ends = Lost (modules job nums count) (module_row job nums k) (files ++ area) (table_names (files ++ area) retained kept) d prefix elements text ends

    -- what its texts ask
    pub texts_asked : (l : Loss) → Ends l → OfTexts files area s.isolations s.retentions ports isolated l.elements ends l.walk.count
    texts_asked l w =
        record {
          glue = record { ruled = h.ruled; sized = h.orders.shaped.isolations };
          report = orders_report files area nums s h.orders;
          elements = omega (arith, w.elements_few);
          paths = loses_room (modules job nums count) (module_row job nums k) (files ++ area) (parts path from) (table_names (files ++ area) retained kept) d h.filled at_row (parts_bare path from) prefix h.prefix_is elements text ends l w;
        }

    module _ (top : Bytes) (t : Setting) (st : Stands job nums count k files area path from top s t) where
      entries_are : retained_entries t.records ≡ table_names (files ++ area) retained kept
      entries_are = ap retained_entries st.records_are ∙ all_entries_lem (files ++ area) (store_of nums s) s t.records.log ∙ sym h.kept_are

      over_is : (r : Result Loss Passed) → Loses (modules job nums count) (module_row job nums k) (files ++ area) (table_names (files ++ area) retained kept) d prefix elements text ends r → is_err r ≡ not (walk_fits t.design t.base t.scope (retained_entries t.records) (domain_of (files ++ area) d).elements)
      over_is r l =
          loses_over (modules job nums count) (module_row job nums k) (files ++ area) (parts path from) (table_names (files ++ area) retained kept) d h.filled at_row (parts_bare path from) prefix h.prefix_is elements text ends r l
          ∙ ap not (sym (fits_same t.design (modules job nums count) t.base (module_row job nums k) t.scope (parts path from) (retained_entries t.records) (table_names (files ++ area) retained kept) (domain_of (files ++ area) d).elements st.design_is st.base_is st.scope_is_lem entries_are))

      walk_over : (x : Passed) → Loses (modules job nums count) (module_row job nums k) (files ++ area) (table_names (files ++ area) retained kept) d prefix elements text ends (Err x) → walk_fits t.design t.base t.scope (retained_entries t.records) (domain_of (files ++ area) d).elements ≡ false
      walk_over x out = not_true (walk_fits t.design t.base t.scope (retained_entries t.records) (domain_of (files ++ area) d).elements) (over_is (Err x) out)

      walk_within : (l : Loss) → Ends l → walk_fits t.design t.base t.scope (retained_entries t.records) (domain_of (files ++ area) d).elements ≡ true
      walk_within l w = not_false (walk_fits t.design t.base t.scope (retained_entries t.records) (domain_of (files ++ area) d).elements) (over_is (Ok l) w)

      lost_same : lost_paths t (domain_of (files ++ area) d) ≡ domain_list (modules job nums count) (module_row job nums k) (parts path from) (table_names (files ++ area) retained kept) (domain_of (files ++ area) d).elements
      lost_same = list_same t.design (modules job nums count) t.base (module_row job nums k) t.scope (parts path from) (retained_entries t.records) (table_names (files ++ area) retained kept) (domain_of (files ++ area) d).elements st.design_is st.base_is st.scope_is_lem entries_are

      paths_are : (l : Loss) → Ends l → below (parts path from) (paths_of text ends l.walk.count) ≡ lost_paths t (domain_of (files ++ area) d)
      paths_are l w = loses_paths (modules job nums count) (module_row job nums k) (files ++ area) (parts path from) (table_names (files ++ area) retained kept) d h.filled at_row (parts_bare path from) prefix h.prefix_is elements text ends l w ∙ sym lost_same

      count_is : (l : Loss) → Ends l → l.walk.count ≡ length (lost_paths t (domain_of (files ++ area) d))
      count_is l w = loses_count (modules job nums count) (module_row job nums k) (files ++ area) (parts path from) (table_names (files ++ area) retained kept) d h.filled at_row (parts_bare path from) prefix h.prefix_is elements text ends l w ∙ ap length (sym lost_same)

    module _ (top : Bytes) (p q : Below) (g : Out) (glue : Bytes) (o : Out) (report : Bytes) where
      pub supplied_over : (x : Passed) → Loses (modules job nums count) (module_row job nums k) (files ++ area) (table_names (files ++ area) retained kept) d prefix elements text ends (Err x) → SuppliedTold job nums count k files area path from top s ports isolated d p q g glue o report (Err (record {}))
      supplied_over x out = record { told = λ t st. walk_over top t st x out }

      pub supplied_texts : (l : Loss) → Ends l → (r : Told) → Texts (files ++ area) (parts path from) s.isolations s.retentions ports isolated d p q (table_names (files ++ area) elements l.elements) (below (parts path from) (paths_of text ends l.walk.count)) l.walk.count g glue o report r → SuppliedTold job nums count k files area path from top s ports isolated d p q g glue o report (Ok r)
      supplied_texts l w r x =
          record {
            told = λ t st.
                record {
                  within = walk_within top t st l w;
                  glue_is = x.glue_is ∙ glue_told (files ++ area) s.isolations t d (isolations_are (files ++ area) nums s t.records.log t st.records_are) job ports isolated (below_of (files ++ area) p) (below_of (files ++ area) q) g (parts path from) (below (parts path from) (paths_of text ends l.walk.count)) st.scope_is_lem (paths_are top t st l w);
                  report_is = x.report_is ∙ line_told (files ++ area) nums s t.records.log t d st.records_are (below_of (files ++ area) p) (below_of (files ++ area) q) o (parts path from) (table_names (files ++ area) elements l.elements) l.walk.count st.scope_is_lem w.elements_are (count_is top t st l w);
                };
          }

-- ---- a domain

module _ {A : Type 0} (mem : Bytes) (d : Domain) (z : A) (f : Bytes → Bytes → A) where
  with_none : d.power ≡ None → with_supplies (domain_of mem d) z f ≡ z
  unfolding domain_of
  with_none e = rw e

  without : (p : Option Below) → d.power ≡ p → d.ground_net ≡ None → with_supplies (domain_of mem d) z f ≡ z
  unfolding domain_of
  without None e n = rw e
  without (Some b) e n = rw (e, n)

  with_both : (p q : Below) → d.power ≡ Some p → d.ground_net ≡ Some q → with_supplies (domain_of mem d) z f ≡ f (below_of mem p) (below_of mem q)
  unfolding domain_of
  with_both p q e n = rw (e, n)

tells_same : (fits fits' : Bool) (text text' line line' : Bytes) (g : Out) (glue : Bytes) (o : Out) (report : Bytes) (r : Result Told TooMany) → fits ≡ fits' → text ≡ text' → line ≡ line' → Tells fits' text' line' g glue o report r → Tells fits text line g glue o report r
tells_same fits fits' text text' line line' g glue o report r a b c x = rw (a, b, c) x

none_told : (glue : Bytes) (gl : ℕ) (line : Bytes) (o : Out) (report : Bytes) (r : Told) → r.glue ≡ gl → report ▸ r.report ≡ emit o line → Tells true [] line (glue ▸ gl) glue o report (Ok r)
unfolding emit
none_told glue gl line o report r b c = record { within = refl; glue_is = ap (λ (n : ℕ). glue ▸ n) b; report_is = c }

line_bare : (mem : Bytes) (d : Domain) → unpowered_line (domain_of mem d) ≡ unpowered_text (string mem d.name)
unfolding domain_of
line_bare mem d = refl

module _ (job : Bytes) (nums : List ℕ) (count k : ℕ) (files area path : Bytes) (from : ℕ) (top : Bytes) (s : State) (ports : List ℕ) (isolated : ℕ) (d : Domain) (glue : Bytes) (at : ℕ) (o : Out) (report : Bytes) (r : Told) where
  bare_told : ((A : Type 0) (z : A) (f : Bytes → Bytes → A) → with_supplies (domain_of (files ++ area) d) z f ≡ z) → Bare (files ++ area) d at o report r → OneTold job nums count k files area path from top s ports isolated d (glue ▸ at) glue o report (Ok r)
  bare_told none b =
      record {
        told = λ t st.
            tells_same (domain_fits t (domain_of (files ++ area) d)) true (domain_glue t (shown_ports t job (files ++ area) s.isolations ports isolated) (domain_of (files ++ area) d)) [] (domain_line t (domain_of (files ++ area) d)) (unpowered_text (string (files ++ area) d.name)) (glue ▸ at) glue o report (Ok r)
            (none Bool true λ x y. walk_fits t.design t.base t.scope (retained_entries t.records) (domain_of (files ++ area) d).elements)
            (none Bytes [] (powered_glue t (shown_ports t job (files ++ area) s.isolations ports isolated) (domain_of (files ++ area) d)))
            (none Bytes (unpowered_line (domain_of (files ++ area) d)) (powered_line t (domain_of (files ++ area) d)) ∙ line_bare (files ++ area) d)
            (none_told glue at (unpowered_text (string (files ++ area) d.name)) o report r b.glue_is b.report_is);
      }

  pub no_power : Bare (files ++ area) d at o report r → d.power ≡ None → OneTold job nums count k files area path from top s ports isolated d (glue ▸ at) glue o report (Ok r)
  no_power b e = bare_told (λ A z f. with_none (files ++ area) d z f e) b

  pub no_ground : Bare (files ++ area) d at o report r → d.ground_net ≡ None → OneTold job nums count k files area path from top s ports isolated d (glue ▸ at) glue o report (Ok r)
  no_ground b e = bare_told (λ A z f. without (files ++ area) d z f d.power refl e) b

pub both_told : (job : Bytes) (nums : List ℕ) (count k : ℕ) (files area path : Bytes) (from : ℕ) (top : Bytes) (s : State) (ports : List ℕ) (isolated : ℕ) (d : Domain) (p q : Below) (g : Out) (glue : Bytes) (o : Out) (report : Bytes) (r : Result Told TooMany)
    → SuppliedTold job nums count k files area path from top s ports isolated d p q g glue o report r → d.power ≡ Some p → d.ground_net ≡ Some q → OneTold job nums count k files area path from top s ports isolated d g glue o report r
both_told job nums count k files area path from top s ports isolated d p q g glue o report r x e f =
    record {
      told = λ t st.
          tells_same (domain_fits t (domain_of (files ++ area) d)) (walk_fits t.design t.base t.scope (retained_entries t.records) (domain_of (files ++ area) d).elements)
          (domain_glue t (shown_ports t job (files ++ area) s.isolations ports isolated) (domain_of (files ++ area) d)) (powered_glue t (shown_ports t job (files ++ area) s.isolations ports isolated) (domain_of (files ++ area) d) (below_of (files ++ area) p) (below_of (files ++ area) q))
          (domain_line t (domain_of (files ++ area) d)) (powered_line t (domain_of (files ++ area) d) (below_of (files ++ area) p) (below_of (files ++ area) q))
          g glue o report r
          (with_both (files ++ area) d true (λ a b. walk_fits t.design t.base t.scope (retained_entries t.records) (domain_of (files ++ area) d).elements) p q e f)
          (with_both (files ++ area) d [] (powered_glue t (shown_ports t job (files ++ area) s.isolations ports isolated) (domain_of (files ++ area) d)) p q e f)
          (with_both (files ++ area) d (unpowered_line (domain_of (files ++ area) d)) (powered_line t (domain_of (files ++ area) d)) p q e f)
          (x.told t st);
    }
