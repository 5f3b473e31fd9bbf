-- The report line of a stored domain: laws as the needs ask them. Assumes nothing.
use Rattle.store.specs.declared.state.Few.{Few}
use Rattle.store.specs.declared.state.Retention.{Retention}
use Prim.Native.Nat.{ℕ, ◌≤◌}
use mathlib.Core.Path.{◌≡◌, sym, ap, ◌∙◌}
use mathlib.Core.List.{List, [], ◌++◌, map, flat_map}
use native.Mathlib.Omega.{arith}
use lib.ListN.{length}
use borrow.Author.Rules.{rules}
use Rattle.text.specs.Ascii.{Bytes}
use Rattle.out.specs.Emit.{Out, emit}
use Rattle.spans.specs.declared.span.Span.{Span}
use Rattle.names.specs.Name.{name_of, Makes}
use Rattle.names.specs.declared.name.Form.TheVariants.{Word}
use Rattle.names.specs.declared.name.Name.{Name}
use Rattle.nametable.specs.Table.{table_names, names_none}
use Rattle.design.specs.Lists.{those}
use Rattle.design.specs.Paths.{retained_path}
use Rattle.store.specs.Strings.{span_of, string, below_of}
use Rattle.store.specs.declared.stored.Stored.{Stored}
use Rattle.store.specs.declared.stored.Below.{Below}
use Rattle.domainlists.specs.Lists.{own_entries, OfRetentions, Names}
use Rattle.domainlists.specs.Own.{own_less}
use Rattle.domainline.specs.Lines.{powered_text, unpowered_text}
use Rattle.domainreport.specs.Reports.{OfReport}
use Rattle.clamps.specs.Values.{stored_name}
use Rattle.clamps.specs.Laws.{stored_is}

pub below_is : (mem : Bytes) (b : Below) (p q : Span) (r : Name) → Makes mem p q Word r → p ≡ span_of b.scope → q ≡ span_of b.word → name_of mem r ≡ below_of mem b
below_is mem b p q r m ep eq = m.is ∙ rw (ep, eq)

pub report_asked : (files area : Bytes) (t : Few Retention) (table : List ℕ) → OfReport files area t → 5120 ≤ length table → OfRetentions files area t table
report_asked files area t table g h = record { small = g.small; holds = g.holds; few = g.few; room = h }

pub own_few : (files area : Bytes) (t : Few Retention) (domain : Stored) (table table' : List ℕ) (k : ℕ) → Names (files ++ area) (own_entries (files ++ area) t domain) table table' k → OfReport files area t → k ≤ 65536
own_few files area t domain table table' k ns g = omega (arith, ns.count, g.few, own_less (files ++ area) t domain)

pub ruleset fews = (rules, own_few)

pub line_is_lem : (mem : Bytes) (t : Few Retention) (domain : Stored) (x : Name) (es : List Bytes) (power ground_net : Bytes) (n : ℕ) (scope : List Bytes) (table table' : List ℕ) (k : ℕ) (o o' : Out) → o' ≡ emit o (powered_text (name_of mem x) es power ground_net n (map (retained_path scope) (table_names mem table' k))) → x ≡ stored_name domain → Names mem (own_entries mem t domain) table table' k → o' ≡ emit o (powered_text (string mem domain) es power ground_net n (map (retained_path scope) (own_entries mem t domain)))
line_is_lem mem t domain x es power ground_net n scope table table' k o o' h ex ns =
    let e : name_of mem x ≡ string mem domain = rw ex (stored_is mem domain) in
    h ∙ ap (λ (l : List Bytes). emit o (powered_text (name_of mem x) es power ground_net n (map (retained_path scope) l))) ns.are ∙ ap (λ (b : Bytes). emit o (powered_text b es power ground_net n (map (retained_path scope) (own_entries mem t domain)))) e

own_none : (mem : Bytes) (t : Few Retention) (domain : Stored) → t.n ≡ 0 → own_entries mem t domain ≡ []
unfolding those flat_map
own_none mem t domain h = rw h

pub line_without : (mem : Bytes) (t : Few Retention) (domain : Stored) (x : Name) (es : List Bytes) (power ground_net : Bytes) (n : ℕ) (scope : List Bytes) (table : List ℕ) (o o' : Out) → o' ≡ emit o (powered_text (name_of mem x) es power ground_net n (map (retained_path scope) (table_names mem table 0))) → x ≡ stored_name domain → t.n ≡ 0 → o' ≡ emit o (powered_text (string mem domain) es power ground_net n (map (retained_path scope) (own_entries mem t domain)))
line_without mem t domain x es power ground_net n scope table o o' h ex z =
    let e : name_of mem x ≡ string mem domain = rw ex (stored_is mem domain) in
    h ∙ ap (λ (l : List Bytes). emit o (powered_text (name_of mem x) es power ground_net n (map (retained_path scope) l))) (names_none mem table 0 ∙ sym (own_none mem t domain z)) ∙ ap (λ (b : Bytes). emit o (powered_text b es power ground_net n (map (retained_path scope) (own_entries mem t domain)))) e

pub bare_is : (mem : Bytes) (domain : Stored) (x : Name) (o o' : Out) → o' ≡ emit o (unpowered_text (name_of mem x)) → x ≡ stored_name domain → o' ≡ emit o (unpowered_text (string mem domain))
bare_is mem domain x o o' h ex = let e : name_of mem x ≡ string mem domain = rw ex (stored_is mem domain) in h ∙ ap (λ (b : Bytes). emit o (unpowered_text b)) e
