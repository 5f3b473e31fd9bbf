-- The glue of a domain by the texts that stand in it, and whose glue it is. Assumes nothing.
use Rattle.store.specs.declared.state.Few.{Few}
use Rattle.store.specs.declared.state.Isolation.{Isolation}
use Rattle.std.specs.Prelude.{ℕ, ◌≡◌, List, map, take}
use Rattle.std.proofs.Common.{sym, ap, ◌∙◌}
use Rattle.text.specs.Ascii.{Bytes}
use Rattle.out.specs.Emit.{Out, emit, ◌⊕◌, emit-⊕}
use Rattle.out.specs.Items.{each}
use Rattle.model.specs.Records.{Domain as Domainʳ}
use Rattle.texts.specs.Setting.{Setting}
use Rattle.texts.specs.Domains.{lost_paths, Check, checks, check_line, wire, always_block, initial_block, powered_glue}
use Rattle.store.specs.Strings.{string}
use Rattle.store.specs.View.{isolation_of}
use Rattle.store.specs.Order.{Sized}
use Rattle.store.specs.declared.stored.Stored.{Stored}
use Rattle.isolated.specs.Table.{kept_in}
use Rattle.alike.specs.Strategies.{strategy_at}
use Rattle.alike.specs.Shown.{shown}
use Rattle.alike.specs.Ruled.{Ruled}
use Rattle.checks.specs.Sorted.{check_text, own_in}
use Rattle.checks.specs.Seen.{check_lines}
use Rattle.blocks.specs.Blocks.{wire_text, up_text, down_text, initial_text, initial_is, always_is}

-- the wire, the `always` block with its checks, the `initial` block
abbrev pub glue_text : Bytes → Bytes → Bytes → Bytes → List Bytes → Bytes
glue_text name power ground_net cs paths = wire_text name power ground_net ⊕ up_text name paths ⊕ cs ⊕ down_text name paths ⊕ initial_text name paths

-- what is asked of the isolated ports and the strategies
pub record OfGlue (mem : Bytes) (t : Few Isolation) (ports : List ℕ) (n : ℕ) : Type 0 where
  pub ruled : Ruled mem t ports n
  pub sized : Sized 32 t.n t.all

-- ---- law: this is the glue of the domain

blocks_are : (o : Out) (d : Domainʳ) (power ground_net : Bytes) (cs : List Check) (paths : List Bytes) → emit o (glue_text d.name power ground_net (each (check_line d) cs) paths) ≡ emit o (wire d power ground_net ⊕ always_block d cs paths ⊕ initial_block d paths)
blocks_are o d power ground_net cs paths =
    let w : Out = emit o (wire_text d.name power ground_net) in
    let a : emit w (up_text d.name paths ⊕ each (check_line d) cs ⊕ down_text d.name paths) ≡ emit w (always_block d cs paths) = always_is w d cs paths in
    let l : emit o (glue_text d.name power ground_net (each (check_line d) cs) paths) ≡ emit (emit w (up_text d.name paths ⊕ each (check_line d) cs ⊕ down_text d.name paths)) (initial_text d.name paths) = rw (emit-⊕, emit-⊕, emit-⊕, emit-⊕) (sym (rw (emit-⊕, emit-⊕))) in
    let r : emit o (wire d power ground_net ⊕ always_block d cs paths ⊕ initial_block d paths) ≡ emit (emit w (always_block d cs paths)) (initial_text d.name paths) = rw (emit-⊕, emit-⊕, initial_is d paths) in
    l ∙ ap (λ (x : Out). emit x (initial_text d.name paths)) a ∙ sym r

pub glue_is : (mem : Bytes) (t : Few Isolation) (s : Setting) (domain : Stored) (d : Domainʳ) → d.name ≡ string mem domain → s.records.isolations ≡ map (isolation_of mem) (take t.n t.all) → (job : Bytes) (ports : List ℕ) (n : ℕ) (power ground_net : Bytes) (o : Out)
    → emit o (glue_text d.name power ground_net (each (check_text s.scope (strategy_at mem t) d.name) (own_in mem t domain ports n)) (lost_paths s d)) ≡ emit o (powered_glue s (map (shown s.scope s.top (strategy_at mem t)) (kept_in job mem ports n)) d power ground_net)
glue_is mem t s domain d named are job ports n power ground_net o =
    ap (λ (b : Bytes). emit o (glue_text d.name power ground_net b (lost_paths s d))) (check_lines mem t s domain d named are job ports n)
    ∙ blocks_are o d power ground_net (checks s (map (shown s.scope s.top (strategy_at mem t)) (kept_in job mem ports n)) d) (lost_paths s d)
