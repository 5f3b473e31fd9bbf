-- Power domains: their wires, their two blocks, report lines and warnings.
-- Assumes nothing.
use Rattle.std.specs.Prelude.{Bool, true, false, cond, not, ◌&&◌, length}
use mathlib.Core.List.{List, [], ◌∷◌, map, flat_map}
use Rattle.text.specs.Ascii.{Bytes, ascii}
use Rattle.text.specs.Compare.{same, less}
use Rattle.text.specs.Scan.{any}
use Rattle.out.specs.Emit.{◌⊕◌}
use Rattle.out.specs.Fill.{format1, format2, format3, format4, format5}
use Rattle.out.specs.Items.{each, joined}
use Rattle.out.specs.Number.{decimal}
use Rattle.design.specs.Lists.{on_some, those}
use Rattle.design.specs.Lookup.{module_at}
use Rattle.design.specs.Paths.{filled_parts, retained_path}
use Rattle.walk.specs.Walk.{domain_list, walk_fits}
use Rattle.model.specs.Records.{Domain, Isolation, Retention, Model}
use Rattle.texts.specs.Setting.{Setting}
use Rattle.texts.specs.Isolation.{Isolated}

-- ---- what is lost

-- "Retention of any domain counts.": the entries of all retentions
abbrev pub retained_entries : Model → List Bytes
retained_entries m = flat_map (λ (r : Retention). r.elements) m.retentions

-- the paths that a domain loses, in order
abbrev pub lost_paths : Setting → Domain → List Bytes
lost_paths s d = domain_list s.design s.base s.scope (retained_entries s.records) d.elements

abbrev pub force : Bytes → Bytes
force path = format1 "      force {0} = 'x;\n" path

abbrev pub release : Bytes → Bytes
release path = format1 "      release {0};\n" path

-- ---- "The isolation checks in a domain's block are a set, sorted by the bytes of signal, active value and strategy."
pub record Check : Type 0 where
  pub signal : Bytes
  pub active : Bytes
  pub strategy : Bytes

abbrev pub earlier : Check → Check → Bool
earlier a b =
    cond (same a.signal b.signal)
    (cond (same a.active b.active) (less a.strategy b.strategy) (less a.active b.active))
    (less a.signal b.signal)

abbrev pub is_same : Check → Check → Bool
is_same a b = same a.signal b.signal && (same a.active b.active && same a.strategy b.strategy)

unfoldable pub sorted_in_lem : Check → List Check → List Check
sorted_in_lem a [] = a ∷ []
sorted_in_lem a (b ∷ bs) = cond (is_same a b) (b ∷ bs) (cond (earlier a b) (a ∷ b ∷ bs) (b ∷ sorted_in_lem a bs))

unfoldable pub sorted : List Check → List Check
sorted [] = []
sorted (a ∷ rest) = sorted_in_lem a (sorted rest)

abbrev pub check_of : Isolated → Check
check_of p = record { signal = p.signal; active = p.active; strategy = p.strategy }

-- a port's strategy is one of this domain, by its name
abbrev pub belongs : Setting → Domain → Isolated → Bool
belongs s d p = any (λ (i : Isolation). same i.name p.strategy && same i.domain d.name) s.records.isolations

abbrev pub checks : Setting → List Isolated → Domain → List Check
checks s ps d = sorted (map check_of (those (belongs s d) ps))

-- {0} the signal, {1} the active value, {2} the domain, {3} the strategy
abbrev pub check_line : Domain → Check → Bytes
check_line d c =
    format4 "      if ({0} !== {1}) $display(\"[UPF] Warning: Time: %0t, Isolation control '{0}' (%b) is not enabled when power domain '{2}' is switched OFF (strategy {3})\", $time, {0});\n"
    c.signal c.active d.name c.strategy

-- ---- the glue of a domain with both supplies: its wire and "its blocks"

-- {0} the domain, {1} and {2} its supplies
abbrev pub wire : Domain → Bytes → Bytes → Bytes
wire d power ground_net = format3 "  wire upf_pd__{a} = upf__{b} & upf__{c};\n" d.name power ground_net

-- {0} the domain, {1} the release lines, {2} the isolation checks, {3} the force lines
unfoldable pub always_block : Domain → List Check → List Bytes → Bytes
always_block d cs paths =
    format4 "  always @(upf_pd__{a}) begin\n    if (upf_pd__{a} === 1'b1) begin\n{1}      $display(\"[UPF] Time: %0t, Power domain '{0}' is powered up\", $time);\n    end else begin\n      if ($time != 0) begin\n{2}      end\n{3}      if ($time != 0) $display(\"[UPF] Time: %0t, Power domain '{0}' is powered down\", $time);\n    end\n  end\n"
    d.name (each release paths) (each (check_line d) cs) (each force paths)

unfoldable pub initial_block : Domain → List Bytes → Bytes
initial_block d paths = format2 "  initial begin\n    if (upf_pd__{a} !== 1'b1) begin\n{1}    end\n  end\n" d.name (each force paths)

abbrev pub powered_glue : Setting → List Isolated → Domain → Bytes → Bytes → Bytes
powered_glue s ps d power ground_net = wire d power ground_net ⊕ always_block d (checks s ps d) (lost_paths s d) ⊕ initial_block d (lost_paths s d)

-- ---- the report

-- the retained entries of the domain's own strategies
abbrev pub own_retained : Setting → Domain → List Bytes
own_retained s d = map (retained_path s.scope) (flat_map (λ (r : Retention). r.elements) (those (λ (r : Retention). same r.domain d.name) s.records.retentions))

abbrev pub exempt : List Bytes → Bytes
exempt [] = []
exempt (e ∷ es) = format1 ", retention exempt: {0}" (joined (ascii ",") (e ∷ es))

-- {0} the domain, {1} its elements, {2} and {3} its supplies, {4} the number of the paths
abbrev pub powered_line : Setting → Domain → Bytes → Bytes → Bytes
powered_line s d power ground_net =
    format5 "power domain {0}: elements [{1}], power {2}, ground {3}, {4} corruptible signals" d.name (joined (ascii ", ") d.elements) power ground_net (decimal (length (lost_paths s d)))
    ⊕ exempt (own_retained s d) ⊕ ascii "\n"

abbrev pub unpowered_line : Domain → Bytes
unpowered_line d = format1 "power domain {0}: no primary supplies (always on)\n" d.name

-- ---- warnings: elements that lead to no module
abbrev pub is_found : Setting → Bytes → Bool
is_found s e = on_some (module_at s.design s.base (filled_parts e)) false λ m. true

abbrev pub not_found : Setting → Domain → List Bytes
not_found s d = map (λ (e : Bytes). format2 "power domain '{0}': element '{1}' not found" d.name e) (those (λ e. not (is_found s e)) d.elements)

-- ---- "a domain with both supplies (the commands carried out left its record with a primary power and a primary ground net)"
abbrev pub with_supplies : {A : Type 0} → Domain → A → (Bytes → Bytes → A) → A
with_supplies d z f = on_some d.power z λ p. on_some d.ground_net z λ g. f p g

abbrev pub domain_glue : Setting → List Isolated → Domain → Bytes
domain_glue s ps d = with_supplies d [] (powered_glue s ps d)

abbrev pub domain_line : Setting → Domain → Bytes
domain_line s d = with_supplies d (unpowered_line d) (powered_line s d)

abbrev pub domain_warnings : Setting → Domain → List Bytes
domain_warnings s d = with_supplies d [] λ p g. not_found s d

-- the limits of its walk
abbrev pub domain_fits : Setting → Domain → Bool
domain_fits s d = with_supplies d true λ p g. walk_fits s.design s.base s.scope (retained_entries s.records) d.elements
