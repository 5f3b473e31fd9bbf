-- One turn of a lookup: the answer is that of what is left.
-- Assumes nothing.
use Rattle.std.specs.Prelude.{Some, None}
use mathlib.Core.Path.{◌≡◌, ap, ◌∙◌, sym}
use Prim.Native.Nat.{ℕ, ◌+◌, ◌-◌, ◌<◌, ◌≤◌}
use native.Mathlib.Omega.{arith}
use mathlib.Core.Bool.{Bool, true, false}
use mathlib.Core.List.{List}
use Rattle.std.specs.Prelude.{Option}
use lib.ListN.{drop, drop_of_length-le}
use borrow.Author.Rules.{rules}
use Rattle.text.specs.Ascii.{Bytes}
use Rattle.text.specs.Compare.{same}
use Rattle.joblines.specs.Job.{Inst}
use Rattle.joblines.specs.Sections.{insts_in}
use Rattle.jobindex.specs.Index.{section, name_at, module_row}
use Rattle.jobindex.specs.Rows.{rows_length, rows_here}
use Rattle.design.specs.Lists.{first}
use Rattle.design.specs.Lookup.{module_named, instance_named}
use Rattle.lines.specs.Cursors.{spanned, InstSeen}
use Rattle.lines.specs.declared.InstAt.{InstAt}
use Rattle.lookup.specs.Rows.{modules, ModuleSeen, insts_from, insts_end, insts_are, InstanceSeen, below}

-- ---- modules
module _ (job : Bytes) (index : List ℕ) (count : ℕ) (name : Bytes) (k : ℕ) (inv : module_named (modules job index count) name ≡ module_named (drop k (modules job index count)) name) where
  pub named_end : count ≤ k → ModuleSeen job index count (module_named (modules job index count) name) None
  unfolding first
  named_end h = record { says = sym (inv ∙ rw (drop_of_length-le (modules job index count) {i = k} (omega (arith, rows_length (module_row job index) count)))); within = tt }

  module _ (h : k < count) (p : Bytes) (ep : p ≡ name_at job index k) (t : Bool) (et : t ≡ same p name) where
    test : same (module_row job index k).name name ≡ t
    unfolding name_at module_row
    test = sym (et ∙ ap (λ (q : Bytes). same q name) ep)

    pub named_here : t ≡ true → ModuleSeen job index count (module_named (modules job index count) name) (Some k)
    unfolding first
    named_here g = record { says = sym (inv ∙ rw (rows_here (module_row job index) count k h, test, g)); within = h }

    pub named_next : t ≡ false → module_named (modules job index count) name ≡ module_named (drop (k + 1) (modules job index count)) name
    unfolding first
    named_next g = inv ∙ rw (rows_here (module_row job index) count k h, test, g)

pub ruleset module_turns = (rules, named_end, named_here, named_next)

-- ---- instances
abbrev pub named_in : Bytes → ℕ → ℕ → Bytes → Option Inst
named_in job at end name = first (λ (i : Inst). same i.name name) (insts_in (section job at end))

module _ (job : Bytes) (index : List ℕ) (k : ℕ) (name : Bytes) (end : ℕ) (ee : end ≡ insts_end index k) where
  pub inst_start : (at : ℕ) → at ≡ insts_from index k → instance_named (module_row job index k) name ≡ named_in job at end name
  inst_start at ea = rw (insts_are job index k, ee, ea)

  module _ (at : ℕ) (inv : instance_named (module_row job index k) name ≡ named_in job at end name) where
    pub inst_none : InstSeen job at end None → InstanceSeen job index k name None
    unfolding first
    inst_none seen = record { says = sym (inv ∙ rw (← seen.says)) }

    module _ (i : InstAt) (seen : InstSeen job at end (Some i)) where
      pub inst_less : end - i.next < end - at
      inst_less = omega (arith, seen.goes.further, seen.goes.within)

      module _ (p : Bytes) (ep : p ≡ spanned job i.name) (b : Bool) (eb : b ≡ same p name) where
        test_name : same (spanned job i.name) name ≡ b
        test_name = sym (eb ∙ ap (λ (q : Bytes). same q name) ep)

        pub inst_found : b ≡ true → InstanceSeen job index k name (Some i)
        unfolding first
        inst_found h = record { says = rw (← ee) (sym (inv ∙ rw (← seen.says, test_name, h))) }

        pub inst_next : b ≡ false → instance_named (module_row job index k) name ≡ named_in job i.next end name
        unfolding first
        inst_next h = inv ∙ rw (← seen.says, test_name, h)

pub ruleset inst_turns = (rules, inst_start, inst_none, inst_less, inst_found, inst_next)

-- ---- one instance down
module _ (job : Bytes) (index : List ℕ) (count k : ℕ) (name : Bytes) where
  pub below_none : InstanceSeen job index k name None → ModuleSeen job index count (below (modules job index count) (module_row job index k) name) None
  below_none seen = record { says = rw (← seen.says); within = tt }

  pub below_some : (i : InstAt) → InstanceSeen job index k name (Some i) → (p : Bytes) → p ≡ spanned job i.kind → (q : Option ℕ) → ModuleSeen job index count (module_named (modules job index count) p) q
      → ModuleSeen job index count (below (modules job index count) (module_row job index k) name) q
  below_some i seen p ep q s = record { says = s.says ∙ rw (← seen.says, ep); within = s.within }

pub ruleset belows = (rules, below_none, below_some)
