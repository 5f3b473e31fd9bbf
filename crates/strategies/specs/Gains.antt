-- What each strategy gains, by the module lines, the domains and the ports that are kept already. Assumes nothing.
use Rattle.std.specs.Prelude.{ℕ, ◌+◌, Bool, true, false, cond, not, Option, None, Some}
use mathlib.Core.List.{List, [], ◌∷◌, flat_map}
use Rattle.text.specs.Ascii.{Bytes}
use Rattle.text.specs.Compare.{same}
use Rattle.joblines.specs.Job.{Module}
use Rattle.design.specs.Lists.{first}
use Rattle.model.specs.Records.{Domain, Isolation}
use Rattle.texts.specs.Isolation.{lowered, is_clamp, applies_to, is_outputs, isolation_line, has_elements}
use Rattle.isolated.specs.Table.{Kept}
use Rattle.keep.specs.Gains.{Aim, Gain, stay, behind, gains}
use Rattle.cover.specs.Aims.{output_aims, element_aims}
use Rattle.remarks.specs.Lines.{no_signal, unknown_domain, not_outputs, clamp_unknown}

-- a warning; a line
abbrev pub remark_gain : Bytes → List Kept → Gain
remark_gain t l = record { rows = l; report = []; remarks = t ∷ [] }

abbrev pub line_gain : Bytes → List Kept → Gain
line_gain t l = record { rows = l; report = t; remarks = [] }

-- strategy n covers these ports, and has its line
unfoldable pub covered_gain : ℕ → Isolation → Bytes → List Aim → List Kept → Gain
covered_gain n i sig ps l = behind (gains n i.name ps l) (line_gain (isolation_line i sig) (gains n i.name ps l).rows)

-- "`-applies_to` is looked at only without elements"
abbrev pub domain_gain : List Module → Module → ℕ → Isolation → Bytes → Domain → List Bytes → List Kept → Gain
domain_gain d m n i sig x [] l =
    cond (is_outputs (applies_to i)) (covered_gain n i sig (flat_map (output_aims d m) x.elements) l) (remark_gain (not_outputs i.name (applies_to i)) l)
domain_gain d m n i sig x (e ∷ es) l = covered_gain n i sig (flat_map (element_aims d m) (e ∷ es)) l

abbrev pub found_gain : List Module → Module → ℕ → Isolation → Bytes → List Kept → Option Domain → Gain
found_gain d m n i sig l None = remark_gain (unknown_domain i.name i.domain) l
found_gain d m n i sig l (Some x) = domain_gain d m n i sig x i.elements l

abbrev pub named : List Domain → Bytes → Option Domain
named xs n = first (λ (x : Domain). same x.name n) xs

abbrev pub signal_gain : List Module → Module → List Domain → ℕ → Isolation → List Kept → Option Bytes → Gain
signal_gain d m xs n i l None = remark_gain (no_signal i.name) l
signal_gain d m xs n i l (Some sig) =
    cond (is_clamp (lowered i.clamp)) (found_gain d m n i sig l (named xs i.domain)) (remark_gain (clamp_unknown i.name (lowered i.clamp)) l)

unfoldable pub strategy_gain : List Module → Module → List Domain → ℕ → Isolation → List Kept → Gain
strategy_gain d m xs n i l = signal_gain d m xs n i l i.signal

-- ---- those with elements, or those without; n is the number of the first

abbrev pub chosen : Bool → Isolation → Bool
chosen having i = cond having (has_elements i) (not (has_elements i))

unfoldable pub round_gain : List Module → Module → List Domain → Bool → ℕ → List Isolation → List Kept → Gain
round_gain d m xs having n [] l = stay l
round_gain d m xs having n (i ∷ is) l =
    cond (chosen having i) (behind (strategy_gain d m xs n i l) (round_gain d m xs having (n + 1) is (strategy_gain d m xs n i l).rows)) (round_gain d m xs having (n + 1) is l)

-- "Strategies with elements go first, otherwise in order of creation"
unfoldable pub isolation_gain : List Module → Module → List Domain → List Isolation → List Kept → Gain
isolation_gain d m xs is l = behind (round_gain d m xs true 0 is l) (round_gain d m xs false 0 is (round_gain d m xs true 0 is l).rows)
