-- Isolation: which ports are isolated, by which strategy, and the processes that clamp them (document 01, "The walk and the glue").
-- Assumes nothing.
use Rattle.std.specs.Prelude.{ℕ, ◌+◌, ◌-◌, Bool, true, false, cond, not, ◌&&◌, ◌||◌, Option, None, Some}
use mathlib.Core.List.{List, [], ◌∷◌, ◌++◌, map, flat_map}
use Rattle.text.specs.Ascii.{Bytes, ascii, byte}
use Rattle.text.specs.Classes.{within}
use Rattle.text.specs.Compare.{same}
use Rattle.text.specs.Scan.{any, is}
use Rattle.out.specs.Emit.{◌⊕◌}
use Rattle.out.specs.Fill.{format1, format2, format3, format4, format5}
use Rattle.out.specs.Items.{each, joined}
use Rattle.joblines.specs.Job.{Module}
use Rattle.design.specs.Lists.{on_some, first, those, is_in}
use Rattle.design.specs.Lookup.{module_at, instance_named}
use Rattle.design.specs.Ports.{output_ports}
use Rattle.design.specs.Connections.{output_actual}
use Rattle.design.specs.Paths.{parts}
use Rattle.model.specs.Records.{Domain, Isolation, Model}
use Rattle.model.specs.Scope.{up}
use Rattle.texts.specs.Setting.{Setting, hier, slash_path}

-- a port that a strategy keeps
pub record Isolated : Type 0 where
  pub strategy : Bytes
  -- instance and port, as written
  pub port : Bytes
  -- the net of the parent that is clamped
  pub parent : Bytes
  -- `0`, `1` or `z`
  pub clamp : Bytes
  -- the control signal and the value at which it isolates
  pub signal : Bytes
  pub active : Bytes

-- an instance and a port of it
pub record Target : Type 0 where
  pub inst : Bytes
  pub port : Bytes

-- ---- a strategy's own values

-- a letter in lower case
abbrev pub lower : ℕ → ℕ
lower b = cond (within (byte "A") (byte "Z") b) (byte "a" + (b - byte "A")) b

abbrev pub lowered : Bytes → Bytes
lowered w = map lower w

-- "A sense other than `low`, in any case of letters, is high."
abbrev pub active_of : Isolation → Bytes
active_of i = cond (same (lowered i.sense) (ascii "low")) (ascii "1'b0") (ascii "1'b1")

abbrev pub is_clamp : Bytes → Bool
is_clamp c = same c (ascii "0") || (same c (ascii "1") || same c (ascii "z"))

abbrev pub domain_named : Model → Bytes → Option Domain
domain_named m n = first (λ (d : Domain). same d.name n) m.domains

-- ---- what a strategy aims at

-- the last of the parts, and those before it
abbrev pub last_part : List Bytes → Bytes
last_part [] = []
last_part (p ∷ []) = p
last_part (p ∷ q ∷ ps) = last_part (q ∷ ps)

abbrev pub front_parts : List Bytes → List Bytes
front_parts [] = []
front_parts (p ∷ []) = []
front_parts (p ∷ q ∷ ps) = p ∷ front_parts (q ∷ ps)

-- all output ports of the module that an element leads to below the scope; an element's empty parts lead to none
abbrev pub outputs_of : Setting → Bytes → List Target
outputs_of s e = on_some (module_at s.design s.base (parts e)) [] λ m. map (λ p. record { inst = e; port = p }) (output_ports m)

-- "An element with `/` is an instance and a port.": the port stands behind the last `/`
abbrev pub element_targets : Setting → Bytes → List Target
element_targets s e = cond (any (is (byte "/")) e) (record { inst = up e; port = last_part (parts e) } ∷ []) (outputs_of s e)

-- ---- a port, resolved

-- what a target comes to: nothing; a port without a plain net; or the parent's net, below the scope
pub data Resolved : Type 0 where
  absent not_plain_lem : Resolved
  net : Bytes → Resolved

abbrev pub below_parent : List Bytes → Bytes → Bytes
below_parent [] n = n
below_parent (p ∷ ps) n = joined (ascii "/") (p ∷ ps) ++ (ascii "/" ++ n)

abbrev pub actual_of : Target → Module → Module → Resolved
actual_of t parent sub =
    on_some (instance_named parent (last_part (parts t.inst))) absent λ i.
    on_some (output_actual i sub t.port) not_plain_lem λ n.
    net (below_parent (front_parts (parts t.inst)) n)

unfoldable pub resolved : Setting → Target → Resolved
resolved s t =
    on_some (module_at s.design s.base (front_parts (parts t.inst))) absent λ parent.
    on_some (module_at s.design s.base (parts t.inst)) absent λ sub.
    actual_of t parent sub

abbrev pub key_of : Target → Bytes
key_of t = t.inst ++ (ascii "/" ++ t.port)

-- ---- one strategy after the other: "the first to cover a port keeps it"

-- what has been isolated so far: the keys of the ports that are covered, the ports, the report lines and the warnings
pub record Cover : Type 0 where
  pub keys : List Bytes
  pub ports : List Isolated
  pub report : Bytes
  pub warnings : List Bytes

abbrev pub no_cover : Cover
no_cover = record { keys = []; ports = []; report = []; warnings = [] }

abbrev pub remarked : Cover → Bytes → Cover
remarked c t = record { keys = c.keys; ports = c.ports; report = c.report; warnings = c.warnings ++ (t ∷ []) }

-- the port as the strategy with this signal isolates it, at the parent's net n
abbrev pub isolated_by : Setting → Isolation → Bytes → Target → Bytes → Isolated
isolated_by s i sig t n =
    record {
      strategy = i.name;
      port = slash_path s (key_of t);
      parent = hier s n;
      clamp = lowered i.clamp;
      signal = hier s sig;
      active = active_of i;
    }

-- what a target comes to, once it is resolved
abbrev pub kept : Setting → Isolation → Bytes → Target → Cover → Resolved → Cover
kept s i sig t c Resolved.absent = c
kept s i sig t c Resolved.not_plain_lem = remarked c (format3 "isolation strategy '{0}': port '{1}/{2}' actual is not a plain net; not simulated" i.name t.inst t.port)
kept s i sig t c (Resolved.net n) =
    record { keys = c.keys ++ (key_of t ∷ []); ports = c.ports ++ (isolated_by s i sig t n ∷ []); report = c.report; warnings = c.warnings }

-- only a resolved port counts as covered
unfoldable pub covering : Setting → Isolation → Bytes → List Target → Cover → Cover
covering s i sig [] c = c
covering s i sig (t ∷ ts) c = covering s i sig ts (cond (is_in (key_of t) c.keys) c (kept s i sig t c (resolved s t)))

abbrev pub reported : Cover → Bytes → Cover
reported c t = record { keys = c.keys; ports = c.ports; report = c.report ++ t; warnings = c.warnings }

-- {0} the strategy, {1} its domain, {2} its clamp as written, {3} its signal, {4} its sense
abbrev pub isolation_line : Isolation → Bytes → Bytes
isolation_line i sig = format5 "isolation {0} on {1}: clamp {2} control {3} sense {4}\n" i.name i.domain i.clamp sig i.sense

abbrev pub covered : Setting → Isolation → Bytes → List Target → Cover → Cover
covered s i sig ts c = reported (covering s i sig ts c) (isolation_line i sig)

-- "`-applies_to` is looked at only without elements"
abbrev pub applies_to : Isolation → Bytes
applies_to i = on_some i.applies_to (ascii "outputs") λ a. a

abbrev pub is_outputs : Bytes → Bool
is_outputs a = same a (ascii "outputs") || same a (ascii "both")

abbrev pub in_domain : Setting → Isolation → Bytes → Domain → Cover → List Bytes → Cover
in_domain s i sig d c [] =
    cond (is_outputs (applies_to i)) (covered s i sig (flat_map (outputs_of s) d.elements) c)
    (remarked c (format2 "isolation strategy '{0}': -applies_to {1} not simulated (outputs only)" i.name (applies_to i)))
in_domain s i sig d c (e ∷ es) = covered s i sig (flat_map (element_targets s) (e ∷ es)) c

abbrev pub with_domain : Setting → Isolation → Bytes → Cover → Option Domain → Cover
with_domain s i sig c None = remarked c (format2 "isolation strategy '{0}': unknown domain '{1}'" i.name i.domain)
with_domain s i sig c (Some d) = in_domain s i sig d c i.elements

abbrev pub with_signal : Setting → Isolation → Cover → Option Bytes → Cover
with_signal s i c None = remarked c (format1 "isolation strategy '{0}' has no -isolation_signal; not simulated" i.name)
with_signal s i c (Some sig) =
    cond (is_clamp (lowered i.clamp)) (with_domain s i sig c (domain_named s.records i.domain))
    (remarked c (format2 "isolation strategy '{0}': clamp value '{1}' not simulated" i.name (lowered i.clamp)))

unfoldable pub strategies : Setting → List Isolation → Cover → Cover
strategies s [] c = c
strategies s (i ∷ is) c = strategies s is (with_signal s i c i.signal)

-- "Strategies with elements go first, otherwise in order of creation"
abbrev pub has_elements : Isolation → Bool
has_elements i = some_there i.elements
  where
    some_there : List Bytes → Bool
    some_there [] = false
    some_there (e ∷ es) = true

abbrev pub in_rounds : List Isolation → List Isolation
in_rounds is = those has_elements is ++ those (λ i. not (has_elements i)) is

unfoldable pub isolation : Setting → Cover
isolation s = strategies s (in_rounds s.records.isolations) no_cover

-- ---- the processes: one for each control signal and active value, in the order of their first ports

abbrev pub alike : Isolated → Isolated → Bool
alike p q = same p.signal q.signal && same p.active q.active

-- the ports that begin a process
unfoldable pub leaders : List Isolated → List Isolated → List Isolated
leaders seen [] = []
leaders seen (p ∷ ps) = cond (any (alike p) seen) (leaders seen ps) (p ∷ leaders (p ∷ seen) ps)

abbrev pub clamp_on : Isolated → Bytes
clamp_on p =
    format4 "      force {0} = '{1};\n      $display(\"[UPF] Time: %0t, Isolation enabled (strategy {2}) on port '{3}', clamp {1}\", $time);\n"
    p.parent p.clamp p.strategy p.port

abbrev pub clamp_off : Isolated → Bytes
clamp_off p = format3 "      release {0};\n      $display(\"[UPF] Time: %0t, Isolation disabled (strategy {1}) on port '{2}'\", $time);\n" p.parent p.strategy p.port

abbrev pub process : List Isolated → Isolated → Bytes
process ps p =
    format2 "  always @({0}) begin\n    if ({0} === {1}) begin\n" p.signal p.active
    ⊕ each clamp_on (those (alike p) ps) ⊕ ascii "    end else begin\n" ⊕ each clamp_off (those (alike p) ps) ⊕ ascii "    end\n  end\n"

abbrev pub processes : List Isolated → Bytes
processes ps = each (process ps) (leaders [] ps)
