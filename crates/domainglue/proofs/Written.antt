-- The glue of a domain: laws as the needs ask them. Assumes nothing.
use Rattle.store.specs.declared.state.Few.{Few}
use Rattle.store.specs.declared.state.Isolation.{Isolation}
use Prim.Native.Nat.{ℕ, ◌≤◌}
use mathlib.Core.Path.{◌≡◌, ap, ◌∙◌}
use mathlib.Core.List.{List}
use lib.ListN.{length, take}
use borrow.Author.Rules.{rules}
use Rattle.text.specs.Ascii.{Bytes}
use Rattle.out.specs.Emit.{Out, emit}
use Rattle.out.specs.Items.{each}
use Rattle.names.specs.Name.{name_of}
use Rattle.names.specs.declared.name.Name.{Name}
use Rattle.model.specs.Records.{Isolation as Isolationʳ}
use Rattle.store.specs.Strings.{string}
use Rattle.store.specs.declared.stored.Stored.{Stored}
use Rattle.checks.specs.Sorted.{Sorts, Found, Known, check_text}
use Rattle.domainglue.specs.Glue.{glue_text, OfGlue}
use Rattle.clamps.specs.Values.{stored_name}
use Rattle.clamps.specs.Laws.{stored_is}

pub glue_sorts : (mem : Bytes) (t : Few Isolation) (ports : List ℕ) (n : ℕ) (found : List ℕ) → OfGlue mem t ports n → 256 ≤ length found → Sorts mem t ports n found
glue_sorts mem t ports n found g h = record { ruled = g.ruled; sized = g.sized; room = h }

pub found_known : (l : List ℕ) (most : ℕ) (found found' : List ℕ) (m : ℕ) → Found l most found found' m → Known found' m
found_known l most found found' m f = f.known

pub ruleset knowns = (rules, found_known)

pub glue_are : (mem : Bytes) (domain : Stored) (x : Name) (power ground_net : Bytes) (scope : List Bytes) (f : ℕ → Isolationʳ) (l : List ℕ) (most : ℕ) (found found' : List ℕ) (m : ℕ) (paths : List Bytes) (o o' : Out) → o' ≡ emit o (glue_text (name_of mem x) power ground_net (each (check_text scope f (name_of mem x)) (take m found')) paths) → x ≡ stored_name domain → Found l most found found' m → o' ≡ emit o (glue_text (string mem domain) power ground_net (each (check_text scope f (string mem domain)) l) paths)
glue_are mem domain x power ground_net scope f l most found found' m paths o o' h ex g =
    let e : name_of mem x ≡ string mem domain = rw ex (stored_is mem domain) in
    h
    ∙ ap (λ (b : Bytes). emit o (glue_text b power ground_net (each (check_text scope f b) (take m found')) paths)) e
    ∙ ap (λ (k : List ℕ). emit o (glue_text (string mem domain) power ground_net (each (check_text scope f (string mem domain)) k) paths)) g.are
