-- What the texts say of the signals that a domain loses: the number in its report line (demand 3c), and the force lines of its two blocks in the
-- glue (demand 3d), each under its sentence.
-- Assumes nothing.
use Rattle.std.specs.Prelude.{ℕ, ◌≤◌, ◌≡◌, refl, leb, length, Option, None, Some}
use Rattle.std.proofs.Math.Path.{sym, ap}
use Rattle.std.proofs.Common.{subst, ◌∙◌, arith}
use Rattle.std.proofs.Math.Bool.{true}
use mathlib.Core.List.{List, [], ◌∷◌, ◌++◌, map, append_assoc, append_cancel_left, append_cancel_right, Memᴰ as Mem}
use Rattle.std.proofs.lemmas.List.{length-map}
use borrow.Author.Tests.{leb-true}
use Rattle.text.specs.Ascii.{Bytes, ascii}
use Rattle.text.specs.Numbers.{value_from, is_decimal}
use Rattle.text.specs.Sames.{both}
use Rattle.text.specs.Scan.{all}
use Rattle.out.specs.Emit.{◌⊕◌}
use Rattle.out.specs.Fill.{pick, arg, adds, turns, filled, fill}
use Rattle.out.specs.Items.{each, joined}
use Rattle.out.specs.Number.{decimal}
use Rattle.joblines.specs.Job.{Module, Job}
use Rattle.joblines.specs.Parse.{parse, accepted}
use Rattle.design.specs.Lookup.{module_named, module_at}
use Rattle.design.specs.Losables.{named_mem, module_at_mem}
use Rattle.design.proofs.AcceptedNames.{accepted_names}
use Rattle.walk.specs.Limits.{most_entered, most_paths, most_path_bytes}
use Rattle.walk.specs.Walk.{domain_entered, path_bytes}
use Rattle.walk.specs.Reach.{Distinct, Scope, DomainReaches, NumberOf}
use Rattle.walk.proofs.Demand.{listed_once, listed_number}
use Rattle.model.specs.Records.{Domain, Model}
use Rattle.texts.specs.Scope.{Path, existing, scope_path_of, scope_along, scope_of, at}
use Rattle.texts.specs.Setting.{Setting, setting_of}
use Rattle.texts.specs.Isolation.{isolation}
use Rattle.texts.specs.Domains.{retained_entries, lost_paths, checks, wire, powered_glue, powered_line, unpowered_line, exempt, own_retained, with_supplies, domain_glue, domain_line, domain_fits}
use Rattle.texts.specs.Texts.{warnings_of, glue_of, shifter_line, table_line, warning_line, report_of, fits}
use Rattle.texts.specs.ForceLines.{force_lines, force_line, on_one_line, names_on_one_line}
use Rattle.texts.specs.Laws.{all_at, each_at, map_distinct}
use Rattle.texts.specs.Decimals.{decimal_value, decimal_form}
use Rattle.texts.proofs.Cuts.{initial_forces, always_forces}
use Rattle.texts.proofs.OneLine.{lookup_one, listed_one, checks_one}
use Rattle.texts.specs.Blocks.{always_of, initial_of, glue_head, report_head, glue_for, report_for, report_tail}

-- ---- a domain's parts of the texts

with_both : {A : Type 0} (d : Domain) (z : A) (f : Bytes → Bytes → A) (power ground_net : Bytes) → d.power ≡ Some power → d.ground_net ≡ Some ground_net → with_supplies d z f ≡ f power ground_net
with_both d z f power ground_net p g = rw (p, g)

three : (a b c r : Bytes) → ((a ++ b) ++ c) ++ r ≡ a ++ (b ++ (c ++ r))
three a b c r = rw (append_assoc (a ++ b) c r, append_assoc a b (c ++ r))

-- ---- every domain with both supplies, wherever it stands among the domains

module _ (s : Setting) (front : List Domain) (d : Domain) (back : List Domain) (stands : s.records.domains ≡ front ++ d ∷ back) (power ground_net : Bytes) (p : d.power ≡ Some power) (g : d.ground_net ≡ Some ground_net) where
  -- 3d: "The blocks are parts of the glue as `generate` writes it: the definition of the glue exhibits them"
  pub glue_has_blocks : glue_of s ≡ (glue_head s ++ glue_for s front) ++ (wire d power ground_net ++ (always_of s d ++ (initial_of s d ++ glue_for s back)))
  unfolding glue_of ◌⊕◌
  glue_has_blocks =
      each_at (domain_glue s (isolation s).ports) (glue_head s) s.records.domains front d back stands
      ∙ ap (λ (t : Bytes). (glue_head s ++ glue_for s front) ++ (t ++ glue_for s back)) (with_both d [] (powered_glue s (isolation s).ports d) power ground_net p g)
      ∙ ap (λ (t : Bytes). (glue_head s ++ glue_for s front) ++ t) (three (wire d power ground_net) (always_of s d) (initial_of s d) (glue_for s back))

  -- 3c: the report has the domain's line
  pub report_has_line : report_of s ≡ (report_head s ++ report_for s front) ++ (powered_line s d power ground_net ++ (report_for s back ++ report_tail s))
  unfolding report_of ◌⊕◌
  report_has_line =
      three (report_head s ++ report_for s s.records.domains) (each shifter_line s.records.shifters) (each table_line s.records.tables) (each warning_line (warnings_of s))
      ∙ ap (λ (t : Bytes). t ++ report_tail s) (each_at (domain_line s) (report_head s) s.records.domains front d back stands)
      ∙ append_assoc (report_head s ++ report_for s front) (domain_line s d ++ report_for s back) (report_tail s)
      ∙ ap (λ (t : Bytes). (report_head s ++ report_for s front) ++ t) (append_assoc (domain_line s d) (report_for s back) (report_tail s))
      ∙ ap (λ (t : Bytes). (report_head s ++ report_for s front) ++ (t ++ (report_for s back ++ report_tail s))) (with_both d (unpowered_line d) (powered_line s d) power ground_net p g)

-- which says how many signals there are: `.. ground G, N corruptible signals ..`, where N is the length of the list in decimal digits
pub line_says : (s : Setting) (d : Domain) (power ground_net : Bytes) → powered_line s d power ground_net ≡
    ascii "power domain " ++ (d.name ++ (ascii ": elements [" ++ (joined (ascii ", ") d.elements ++ (ascii "], power " ++ (power ++ (ascii ", ground " ++ (ground_net ++ (ascii ", "
    ++ (decimal (length (lost_paths s d)) ++ (ascii " corruptible signals" ++ (exempt (own_retained s d) ++ ascii "\n")))))))))))
unfolding ◌⊕◌ fill filled adds turns arg pick
line_says s d power ground_net = simp append_assoc

-- ---- the number

module _ (s : Setting) (within : fits s ≡ true) (d : Domain) (has : Mem d s.records.domains) (power ground_net : Bytes) (p : d.power ≡ Some power) (g : d.ground_net ≡ Some ground_net) where
  -- "its paths 1,024"
  pub few_paths : length (lost_paths s d) ≤ most_paths
  unfolding fits
  few_paths =
      let domains = both (all (domain_fits s) s.records.domains) _ within in
      let this = sym (with_both d true _ power ground_net p g) ∙ all_at (domain_fits s) s.records.domains domains.0 has in
      let paths = both (leb (domain_entered s.design s.base s.scope (retained_entries s.records) d.elements) most_entered) _ this in
      let number = both (leb (length (lost_paths s d)) most_paths) (leb (path_bytes (lost_paths s d)) most_path_bytes) paths.1 in
      leb-true (length (lost_paths s d)) most_paths number.0

  -- 3c: "the number printed in the report line, as decimal digits, is the length of that list"
  pub number_printed : (is_decimal (decimal (length (lost_paths s d))) ≡ true) × (value_from 0 (decimal (length (lost_paths s d))) ≡ length (lost_paths s d))
  number_printed =
      let few = few_paths in
      (decimal_form (length (lost_paths s d)) (omega arith), decimal_value (length (lost_paths s d)) (omega arith))

  -- and so it is the number of different paths that some element of the domain reaches
  pub number_reached : NumberOf (DomainReaches s.design s.base s.scope (retained_entries s.records) d.elements) (value_from 0 (decimal (length (lost_paths s d))))
  number_reached =
      subst (NumberOf (DomainReaches s.design s.base s.scope (retained_entries s.records) d.elements)) (sym number_printed.1)
      (listed_number s.design s.base s.scope (retained_entries s.records) d.elements)

-- ---- the force lines

-- the scope of a job that passes checks 7 and 8 exists
pub scope_exists : (t : Bytes) (j : Job) (top : Module) (design_top : Option Bytes) (path : List Bytes) (base : Module) → parse t ≡ accepted j → module_named j.modules j.top ≡ Some top → scope_of j top design_top ≡ at path base → Scope t j path base
unfolding scope_of
scope_exists t j top design_top path base a i e =
    record { accepts = a; top = top; is_top = i; exists = along_exists (scope_path_of j top design_top) e }
  where
    found : (p : List Bytes) (o : Option Module) → existing p o ≡ at path base → module_at j.modules top p ≡ o → module_at j.modules top path ≡ Some base
    found p None e m = let z : ◌≡◌ {A = ℕ} 0 1 = cc in absurd (omega arith)
    found p (Some b) e m = let x : p ≡ path = cc in let y : b ≡ base = cc in rw (← x, ← y) m

    along_exists : (p : Path) → scope_along j.modules top p ≡ at path base → module_at j.modules top path ≡ Some base
    along_exists (Path.along p) e = found p (module_at j.modules top p) e refl
    along_exists (Path.refused n) e = let z : ◌≡◌ {A = ℕ} 0 1 = cc in absurd (omega arith)

-- a force line is one path's
line_of : (p q : Bytes) → force_line p ≡ force_line q → p ≡ q
unfolding fill filled adds turns arg pick
line_of p q e = append_cancel_right p q (ascii " = 'x;") (append_cancel_left (ascii "      force ") (p ++ ascii " = 'x;") (q ++ ascii " = 'x;") e)

module _ (t : Bytes) (j : Job) (path : List Bytes) (base : Module) (sc : Scope t j path base) (m : Model) where
  abbrev s : Setting
  s = setting_of j path base m

  top_at : Mem sc.top j.modules
  top_at = named_mem j.modules j.top sc.is_top

  scope_one : all on_one_line path ≡ true
  scope_one = lookup_one j.modules (accepted_names t j sc.accepts) sc.top path top_at sc.exists

  -- no path of an accepted job's domain has an LF, whatever its elements are
  pub paths_on_one_line : (d : Domain) → all on_one_line (lost_paths s d) ≡ true
  paths_on_one_line d =
      listed_one j.modules (accepted_names t j sc.accepts) base (module_at_mem j.modules sc.top path top_at sc.exists) path scope_one
      (retained_entries m) d.elements

  module _ (names : names_on_one_line m ≡ true) (d : Domain) (has : Mem d m.domains) where
    plain : on_one_line d.name ≡ true
    plain = all_at (λ (k : Domain). on_one_line k.name) m.domains (both (all (λ (k : Domain). on_one_line k.name) m.domains) _ names).0 has

    -- 3d: "where no domain, strategy or isolation signal has an LF in its name: the lines of each of the domain's two blocks that begin with six
    -- spaces, `force` and a space are exactly one for each path of the list"
    pub always_lines : force_lines (always_of s d) ≡ map force_line (lost_paths s d)
    always_lines =
        always_forces d (lost_paths s d) plain (paths_on_one_line d) (checks s (isolation s).ports d)
        (checks_one s scope_one (both (all (λ (k : Domain). on_one_line k.name) m.domains) _ names).1 d)

    pub initial_lines : force_lines (initial_of s d) ≡ map force_line (lost_paths s d)
    initial_lines = initial_forces d (lost_paths s d) plain (paths_on_one_line d)

    -- so there are as many as the report says
    pub lines_number : (length (force_lines (always_of s d)) ≡ length (lost_paths s d)) × (length (force_lines (initial_of s d)) ≡ length (lost_paths s d))
    lines_number = (rw always_lines (length-map (lost_paths s d) force_line), rw initial_lines (length-map (lost_paths s d) force_line))

    -- and no line stands there twice
    pub lines_once : Distinct (force_lines (always_of s d)) × Distinct (force_lines (initial_of s d))
    lines_once =
        let once = map_distinct force_line line_of (lost_paths s d) (listed_once j.modules base path (retained_entries m) d.elements) in
        (rw always_lines once, rw initial_lines once)
