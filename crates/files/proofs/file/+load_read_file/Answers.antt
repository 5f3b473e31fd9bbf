use Rattle.reader.specs.Turn.{going_start, next_asks, turn_none, turn_full, begun_asks, turn_less, turn_doing, turn_failed, turn_again}
use Rattle.files.proofs.Does.{named_at, end_in_lem, front_long, lists, past, asks, does, placed_ran, said, scoped, acting, acts_of, deed_refused, deed_fits, deed_done, told, Did, with_counts, load_over, load_asks, loaded_as, not_opened, deep, opening, failed, behind, placed_opening, placed_reads, head_back_lem}
use Rattle.cmdnames.specs.Table.{number_of, known, no_puts, no_load, no_scope}
use Rattle.scopes.specs.Stops.{numbered, stopped, not_stopped}
use Rattle.files.proofs.Moved.{scope_asks}
use Rattle.store.specs.declared.state.State.{State}
use Rattle.made.specs.declared.Deed.{Deed}
use Rattle.held.specs.Laws.{begun_at, with_entries}
use Rattle.deeds.specs.Dones.{variable_fits, variable_done, top_done, domain_fits_lem, domain_done, supplied_fits, supplied_done, net_fits, net_done, port_fits, port_done, isolation_fits, isolation_done, controlled_fits, controlled_done, retention_fits, retention_done, shifter_fits, shifter_done, table_fits, table_done, switch_fits, switch_done, portstate_fits, portstate_done, done_other}
use native.Mathlib.Omega.{arith}
use Prim.Native.Nat.{ℕ}
use borrow.Author.Rules.{rules}
use mathlib.Core.Path.{refl, ap, ◌∙◌}
use Rattle.std.specs.Prelude.{Ok}
use Rattle.loads.specs.Behind.{asked_by}
use Rattle.files.proofs.file.+load_read_file.Goals as goal
use Rattle.files.proofs.file.+load_read_file.Goals.{read_file-After-warnings_with-warnings}

pub load-returns-then-s-gt1024 : goal.load-returns-then-s-gt1024
load-returns-then-s-gt1024 t c =
    let h = c.requires in
    load_over c.args.job.now c.args.files.now c.args.area.now c.args.nums.now c.args.command.now.rows.now c.args.count c.args.command.now.n c.args.k c.args.left c.args.s h c.if-s-gt1024.true c.args.log.now

pub load-before_load-requires : goal.load-before_load-requires
load-before_load-requires t c =
    let h = c.requires in
    asked_by _ _ _ _ _ _ _ _ _ _ (load_asks c.args.job.now c.args.files.now c.args.area.now c.args.nums.now c.args.command.now.rows.now c.args.count c.args.command.now.n c.args.k c.args.left c.args.s h c.if-s-gt1024.false)

pub load-returns-in-Err : goal.load-returns-in-Err
load-returns-in-Err t c =
    let h = c.requires in
    let b = c.before_load in
    not_opened c.args.job.now c.args.files.now c.args.area.now c.args.nums.now c.args.command.now.rows.now c.args.count c.args.command.now.n c.args.k c.args.left c.args.s h c.if-s-gt1024.false _ _ _ (loaded_as _ _ _ _ _ _ _ _ _ _ _ _ _ c.in-Err.is (b.ensures _ (load_asks c.args.job.now c.args.files.now c.args.area.now c.args.nums.now c.args.command.now.rows.now c.args.count c.args.command.now.n c.args.k c.args.left c.args.s h c.if-s-gt1024.false) refl)) c.args.log.now (numbered _)

pub load-overflow_sub-left : goal.load-overflow_sub-left
load-overflow_sub-left t c =
    let h = c.requires in
    let b = c.before_load in
    deep c.args.job.now c.args.files.now c.args.area.now c.args.nums.now c.args.command.now.rows.now c.args.count c.args.command.now.n c.args.k c.args.left c.args.s h c.if-s-gt1024.false _ _ _ (loaded_as _ _ _ _ _ _ _ _ _ _ _ _ _ c.in-Ok.is (b.ensures _ (load_asks c.args.job.now c.args.files.now c.args.area.now c.args.nums.now c.args.command.now.rows.now c.args.count c.args.command.now.n c.args.k c.args.left c.args.s h c.if-s-gt1024.false) refl)) refl

pub load-read_file-r-requires : goal.load-read_file-r-requires
load-read_file-r-requires t c =
    let h = c.requires in
    let b = c.before_load in
    (omega (arith, c.decreases, deep c.args.job.now c.args.files.now c.args.area.now c.args.nums.now c.args.command.now.rows.now c.args.count c.args.command.now.n c.args.k c.args.left c.args.s h c.if-s-gt1024.false _ _ _ (loaded_as _ _ _ _ _ _ _ _ _ _ _ _ _ c.in-Ok.is (b.ensures _ (load_asks c.args.job.now c.args.files.now c.args.area.now c.args.nums.now c.args.command.now.rows.now c.args.count c.args.command.now.n c.args.k c.args.left c.args.s h c.if-s-gt1024.false) refl)) refl), placed_opening c.args.s _ _ c.in_scope-u.ensures _ _ _ _ _ _ _ (opening c.args.job.now c.args.files.now c.args.area.now c.args.nums.now c.args.command.now.rows.now c.args.count c.args.command.now.n c.args.k c.args.left c.args.s h c.if-s-gt1024.false _ _ _ (loaded_as _ _ _ _ _ _ _ _ _ _ _ _ _ c.in-Ok.is (b.ensures _ (load_asks c.args.job.now c.args.files.now c.args.area.now c.args.nums.now c.args.command.now.rows.now c.args.count c.args.command.now.n c.args.k c.args.left c.args.s h c.if-s-gt1024.false) refl)) refl))

pub load-returns-then-is_some : goal.load-returns-then-is_some
load-returns-then-is_some t c =
    let h = c.requires in
    let b = c.before_load in
    failed c.args.job.now c.args.files.now c.args.area.now c.args.nums.now c.args.command.now.rows.now c.args.count c.args.command.now.n c.args.k c.args.left c.args.s h c.if-s-gt1024.false _ _ _ (loaded_as _ _ _ _ _ _ _ _ _ _ _ _ _ c.in-Ok.is (b.ensures _ (load_asks c.args.job.now c.args.files.now c.args.area.now c.args.nums.now c.args.command.now.rows.now c.args.count c.args.command.now.n c.args.k c.args.left c.args.s h c.if-s-gt1024.false) refl)) refl _ _ _ _ _ (placed_reads c.args.s _ _ c.in_scope-u.ensures _ _ _ _ _ _ _ _ _ _ _ _ c.read_file-r.ensures) (stopped _ (told _ _ _ c.is_some.ensures c.if-is_some.true))

pub load-returns-else-is_some : goal.load-returns-else-is_some
load-returns-else-is_some t c =
    let h = c.requires in
    let b = c.before_load in
    behind c.args.job.now c.args.files.now c.args.area.now c.args.nums.now c.args.command.now.rows.now c.args.count c.args.command.now.n c.args.k c.args.left c.args.s h c.if-s-gt1024.false _ _ _ (loaded_as _ _ _ _ _ _ _ _ _ _ _ _ _ c.in-Ok.is (b.ensures _ (load_asks c.args.job.now c.args.files.now c.args.area.now c.args.nums.now c.args.command.now.rows.now c.args.count c.args.command.now.n c.args.k c.args.left c.args.s h c.if-s-gt1024.false) refl)) refl _ _ _ _ _ (placed_reads c.args.s _ _ c.in_scope-u.ensures _ _ _ _ _ _ _ _ _ _ _ _ c.read_file-r.ensures) (not_stopped _ (told _ _ _ c.is_some.ensures c.if-is_some.false)) _ (head_back_lem c.args.s c.read_file-r.result.state _ c.back-u.ensures)

pub read_file-loop-n-init : goal.read_file-loop-n-init
read_file-loop-n-init t c =
    let b = c.place-base in let z = c.place-len in
    going_start c.args.job.now c.args.files.now c.args.area.now c.args.nums.now c.args.log.now c.args.count c.args.k c.args.left c.args.s b.result z.result c.requires b.ensures z.ensures _ refl

pub read_file-next_command-requires : goal.read_file-next_command-requires
read_file-next_command-requires t c =
    let l = c.loop-n in let b = c.place-base in let z = c.place-len in
    next_asks c.args.job.now c.args.files.now c.args.area.now c.args.nums.now c.args.log.now c.args.count c.args.k c.args.left c.args.s b.result z.result c.requires b.ensures z.ensures l.area l.nums l.log l.words l.at l.u l.invariant

pub read_file-returns-in-Ok-None : goal.read_file-returns-in-Ok-None
read_file-returns-in-Ok-None t c =
    let h = c.requires in let l = c.loop-n in let b = c.place-base in let z = c.place-len in let d = c.next_command in
    turn_none c.args.job.now c.args.files.now c.args.area.now c.args.nums.now c.args.log.now c.args.count c.args.k c.args.left c.args.s b.result z.result h b.ensures z.ensures l.area l.nums l.log l.words l.at l.u l.invariant _ _ d.result d.ensures (c.in-Ok-None.is ∙ ap Ok c.in-Ok-None.field-0-is)

pub read_file-returns-in-Err : goal.read_file-returns-in-Err
read_file-returns-in-Err t c =
    let h = c.requires in let l = c.loop-n in let b = c.place-base in let z = c.place-len in let d = c.next_command in
    turn_full c.args.job.now c.args.files.now c.args.area.now c.args.nums.now c.args.log.now c.args.count c.args.k c.args.left c.args.s b.result z.result h b.ensures z.ensures l.area l.nums l.log l.words l.at l.u l.invariant _ _ d.result d.ensures c.in-Err.is _ c.begun-v.ensures

pub read_file-overflow_add-commands : goal.read_file-overflow_add-commands
read_file-overflow_add-commands t c =
    let h = c.requires in let l = c.loop-n in let b = c.place-base in let z = c.place-len in let d = c.next_command in
    omega (arith, (begun_asks c.args.job.now c.args.files.now c.args.area.now c.args.nums.now c.args.log.now c.args.count c.args.k c.args.left c.args.s b.result z.result h b.ensures z.ensures l.area l.nums l.log l.words l.at l.u l.invariant _ _ d.result d.ensures _ _ _ (c.in-Ok-Some.is ∙ ap Ok c.in-Ok-Some.field-0-is)).0)

pub read_file-overflow_sub-substituted : goal.read_file-overflow_sub-substituted
read_file-overflow_sub-substituted t c =
    let h = c.requires in let l = c.loop-n in let b = c.place-base in let z = c.place-len in let d = c.next_command in
    (begun_asks c.args.job.now c.args.files.now c.args.area.now c.args.nums.now c.args.log.now c.args.count c.args.k c.args.left c.args.s b.result z.result h b.ensures z.ensures l.area l.nums l.log l.words l.at l.u l.invariant _ _ d.result d.ensures _ _ _ (c.in-Ok-Some.is ∙ ap Ok c.in-Ok-Some.field-0-is)).1.0

pub read_file-overflow_add-substituted : goal.read_file-overflow_add-substituted
read_file-overflow_add-substituted t c =
    let h = c.requires in let l = c.loop-n in let b = c.place-base in let z = c.place-len in let d = c.next_command in
    omega (arith, (begun_asks c.args.job.now c.args.files.now c.args.area.now c.args.nums.now c.args.log.now c.args.count c.args.k c.args.left c.args.s b.result z.result h b.ensures z.ensures l.area l.nums l.log l.words l.at l.u l.invariant _ _ d.result d.ensures _ _ _ (c.in-Ok-Some.is ∙ ap Ok c.in-Ok-Some.field-0-is)).1.1)

pub read_file-slice_bounds-mem-end : goal.read_file-slice_bounds-mem-end
read_file-slice_bounds-mem-end t c =
    let h = c.requires in let l = c.loop-n in let b = c.place-base in let z = c.place-len in let d = c.next_command in
    end_in_lem c.args.job.now c.args.files.now _ l.nums _ c.args.count _ c.args.k c.args.left _ (turn_doing c.args.job.now c.args.files.now c.args.area.now c.args.nums.now c.args.log.now c.args.count c.args.k c.args.left c.args.s b.result z.result h b.ensures z.ensures l.area l.nums l.log l.words l.at l.u l.invariant _ _ d.result d.ensures _ _ _ (c.in-Ok-Some.is ∙ ap Ok c.in-Ok-Some.field-0-is) d.auto.area _ refl)

pub read_file-slice_bounds-mem-end-in-Ok-Some : goal.read_file-slice_bounds-mem-end-in-Ok-Some
read_file-slice_bounds-mem-end-in-Ok-Some t c =
    let h = c.requires in let l = c.loop-n in let b = c.place-base in let z = c.place-len in let d = c.next_command in
    front_long c.args.job.now c.args.files.now _ l.nums _ c.args.count _ c.args.k c.args.left _ (turn_doing c.args.job.now c.args.files.now c.args.area.now c.args.nums.now c.args.log.now c.args.count c.args.k c.args.left c.args.s b.result z.result h b.ensures z.ensures l.area l.nums l.log l.words l.at l.u l.invariant _ _ d.result d.ensures _ _ _ (c.in-Ok-Some.is ∙ ap Ok c.in-Ok-Some.field-0-is) d.auto.area _ refl)

pub read_file-load-r-requires : goal.read_file-load-r-requires
read_file-load-r-requires t c =
    let h = c.requires in let l = c.loop-n in let b = c.place-base in let z = c.place-len in let d = c.next_command in
    let p = c.pair in let m = c.named_command-c in
    (omega (arith, c.decreases), (record { doing = (turn_doing c.args.job.now c.args.files.now c.args.area.now c.args.nums.now c.args.log.now c.args.count c.args.k c.args.left c.args.s b.result z.result h b.ensures z.ensures l.area l.nums l.log l.words l.at l.u l.invariant _ _ d.result d.ensures _ _ _ (c.in-Ok-Some.is ∙ ap Ok c.in-Ok-Some.field-0-is) d.auto.area _ refl); is = named_at _ _ _ (number_of m.result) 2 p.ensures m.ensures (ap number_of c.in-LoadUpf.is) }))

pub read_file-returns-then-is_some : goal.read_file-returns-then-is_some
read_file-returns-then-is_some t c =
    let h = c.requires in let l = c.loop-n in let b = c.place-base in let z = c.place-len in let d = c.next_command in
    turn_failed c.args.job.now c.args.files.now c.args.area.now c.args.nums.now c.args.log.now c.args.count c.args.k c.args.left c.args.s b.result z.result h b.ensures z.ensures l.area l.nums l.log l.words l.at l.u l.invariant _ _ d.result d.ensures _ _ _ (c.in-Ok-Some.is ∙ ap Ok c.in-Ok-Some.field-0-is) d.auto.area _ refl _ _ _ _ c.load-r.ensures (stopped _ (told _ _ _ c.is_some.ensures c.if-is_some.true))

pub read_file-loop-n-smaller-in-LoadUpf : goal.read_file-loop-n-smaller-in-LoadUpf
read_file-loop-n-smaller-in-LoadUpf t c =
    let h = c.requires in let l = c.loop-n in let b = c.place-base in let z = c.place-len in let d = c.next_command in
    turn_less c.args.job.now c.args.files.now c.args.area.now c.args.nums.now c.args.log.now c.args.count c.args.k c.args.left c.args.s b.result z.result h b.ensures z.ensures l.area l.nums l.log l.words l.at l.u l.invariant _ _ d.result d.ensures _ _ _ (c.in-Ok-Some.is ∙ ap Ok c.in-Ok-Some.field-0-is)

pub read_file-loop-n-preserved-in-LoadUpf : goal.read_file-loop-n-preserved-in-LoadUpf
read_file-loop-n-preserved-in-LoadUpf t c =
    let h = c.requires in let l = c.loop-n in let b = c.place-base in let z = c.place-len in let d = c.next_command in
    turn_again c.args.job.now c.args.files.now c.args.area.now c.args.nums.now c.args.log.now c.args.count c.args.k c.args.left c.args.s b.result z.result h b.ensures z.ensures l.area l.nums l.log l.words l.at l.u l.invariant _ _ d.result d.ensures _ _ _ (c.in-Ok-Some.is ∙ ap Ok c.in-Ok-Some.field-0-is) d.auto.area _ refl _ _ _ _ c.load-r.ensures (not_stopped _ (told _ _ _ c.is_some.ensures c.if-is_some.false)) d.auto.words c.load-r.auto.area c.load-r.auto.nums c.load-r.auto.log

pub read_file-counted-requires : goal.read_file-counted-requires
read_file-counted-requires t c =
    let h = c.requires in let l = c.loop-n in let b = c.place-base in let z = c.place-len in let d = c.next_command in
    lists c.args.job.now c.args.files.now _ l.nums _ c.args.count _ c.args.k c.args.left _ (turn_doing c.args.job.now c.args.files.now c.args.area.now c.args.nums.now c.args.log.now c.args.count c.args.k c.args.left c.args.s b.result z.result h b.ensures z.ensures l.area l.nums l.log l.words l.at l.u l.invariant _ _ d.result d.ensures _ _ _ (c.in-Ok-Some.is ∙ ap Ok c.in-Ok-Some.field-0-is) d.auto.area _ refl)

pub read_file-returns-in_default-counted : goal.read_file-returns-in_default-counted
read_file-returns-in_default-counted t c =
    let h = c.requires in let l = c.loop-n in let b = c.place-base in let z = c.place-len in let d = c.next_command in
    let p = c.pair in let m = c.named_command-c in let x = c.counted in
    turn_failed c.args.job.now c.args.files.now c.args.area.now c.args.nums.now c.args.log.now c.args.count c.args.k c.args.left c.args.s b.result z.result h b.ensures z.ensures l.area l.nums l.log l.words l.at l.u l.invariant _ _ d.result d.ensures _ _ _ (c.in-Ok-Some.is ∙ ap Ok c.in-Ok-Some.field-0-is) d.auto.area _ refl _ _ _ _ (past c.args.job.now c.args.files.now _ l.nums _ c.args.count _ c.args.k c.args.left _ (turn_doing c.args.job.now c.args.files.now c.args.area.now c.args.nums.now c.args.log.now c.args.count c.args.k c.args.left c.args.s b.result z.result h b.ensures z.ensures l.area l.nums l.log l.words l.at l.u l.invariant _ _ d.result d.ensures _ _ _ (c.in-Ok-Some.is ∙ ap Ok c.in-Ok-Some.field-0-is) d.auto.area _ refl) (number_of m.result) (named_at _ _ _ (number_of m.result) (number_of m.result) p.ensures m.ensures refl) x.result x.ensures c.in_default-counted.is _) (λ q. absurd (omega (arith, q)))

pub read_file-loop-n-smaller-in-Puts : goal.read_file-loop-n-smaller-in-Puts
read_file-loop-n-smaller-in-Puts t c =
    let h = c.requires in let l = c.loop-n in let b = c.place-base in let z = c.place-len in let d = c.next_command in
    turn_less c.args.job.now c.args.files.now c.args.area.now c.args.nums.now c.args.log.now c.args.count c.args.k c.args.left c.args.s b.result z.result h b.ensures z.ensures l.area l.nums l.log l.words l.at l.u l.invariant _ _ d.result d.ensures _ _ _ (c.in-Ok-Some.is ∙ ap Ok c.in-Ok-Some.field-0-is)

pub read_file-loop-n-preserved-in-Puts : goal.read_file-loop-n-preserved-in-Puts
read_file-loop-n-preserved-in-Puts t c =
    let h = c.requires in let l = c.loop-n in let b = c.place-base in let z = c.place-len in let d = c.next_command in
    let p = c.pair in let m = c.named_command-c in let x = c.counted in
    turn_again c.args.job.now c.args.files.now c.args.area.now c.args.nums.now c.args.log.now c.args.count c.args.k c.args.left c.args.s b.result z.result h b.ensures z.ensures l.area l.nums l.log l.words l.at l.u l.invariant _ _ d.result d.ensures _ _ _ (c.in-Ok-Some.is ∙ ap Ok c.in-Ok-Some.field-0-is) d.auto.area _ refl _ _ _ _ (does c.args.job.now c.args.files.now _ l.nums _ c.args.count _ c.args.k c.args.left _ (turn_doing c.args.job.now c.args.files.now c.args.area.now c.args.nums.now c.args.log.now c.args.count c.args.k c.args.left c.args.s b.result z.result h b.ensures z.ensures l.area l.nums l.log l.words l.at l.u l.invariant _ _ d.result d.ensures _ _ _ (c.in-Ok-Some.is ∙ ap Ok c.in-Ok-Some.field-0-is) d.auto.area _ refl) (number_of m.result) (named_at _ _ _ (number_of m.result) (number_of m.result) p.ensures m.ensures refl) x.result x.ensures _ c.in-Some.is (no_load _ (search rules)) _ _ _ _ _ (said _ _ _ _ _ _ _ (ap number_of c.in-Puts.is) (asks c.args.job.now c.args.files.now _ l.nums _ c.args.count _ c.args.k c.args.left _ (turn_doing c.args.job.now c.args.files.now c.args.area.now c.args.nums.now c.args.log.now c.args.count c.args.k c.args.left c.args.s b.result z.result h b.ensures z.ensures l.area l.nums l.log l.words l.at l.u l.invariant _ _ d.result d.ensures _ _ _ (c.in-Ok-Some.is ∙ ap Ok c.in-Ok-Some.field-0-is) d.auto.area _ refl) (number_of m.result) (named_at _ _ _ (number_of m.result) (number_of m.result) p.ensures m.ensures refl) x.result x.ensures _ c.in-Some.is (no_load _ (search rules)) (known m.result)) _ _ _ c.puts-end.ensures)) refl d.auto.words refl refl c.puts-end.auto.log

pub read_file-set_scope-requires : goal.read_file-set_scope-requires
read_file-set_scope-requires t c =
    let h = c.requires in let l = c.loop-n in let b = c.place-base in let z = c.place-len in let d = c.next_command in
    let p = c.pair in let m = c.named_command-c in let x = c.counted in
    scope_asks _ _ _ _ _ _ _ (asks c.args.job.now c.args.files.now _ l.nums _ c.args.count _ c.args.k c.args.left _ (turn_doing c.args.job.now c.args.files.now c.args.area.now c.args.nums.now c.args.log.now c.args.count c.args.k c.args.left c.args.s b.result z.result h b.ensures z.ensures l.area l.nums l.log l.words l.at l.u l.invariant _ _ d.result d.ensures _ _ _ (c.in-Ok-Some.is ∙ ap Ok c.in-Ok-Some.field-0-is) d.auto.area _ refl) (number_of m.result) (named_at _ _ _ (number_of m.result) (number_of m.result) p.ensures m.ensures refl) x.result x.ensures _ c.in-Some.is (no_load _ (search rules)) (known m.result))

pub read_file-returns-in-Err-set_scope : goal.read_file-returns-in-Err-set_scope
read_file-returns-in-Err-set_scope t c =
    let h = c.requires in let l = c.loop-n in let b = c.place-base in let z = c.place-len in let d = c.next_command in
    let p = c.pair in let m = c.named_command-c in let x = c.counted in
    turn_failed c.args.job.now c.args.files.now c.args.area.now c.args.nums.now c.args.log.now c.args.count c.args.k c.args.left c.args.s b.result z.result h b.ensures z.ensures l.area l.nums l.log l.words l.at l.u l.invariant _ _ d.result d.ensures _ _ _ (c.in-Ok-Some.is ∙ ap Ok c.in-Ok-Some.field-0-is) d.auto.area _ refl _ _ _ _ (does c.args.job.now c.args.files.now _ l.nums _ c.args.count _ c.args.k c.args.left _ (turn_doing c.args.job.now c.args.files.now c.args.area.now c.args.nums.now c.args.log.now c.args.count c.args.k c.args.left c.args.s b.result z.result h b.ensures z.ensures l.area l.nums l.log l.words l.at l.u l.invariant _ _ d.result d.ensures _ _ _ (c.in-Ok-Some.is ∙ ap Ok c.in-Ok-Some.field-0-is) d.auto.area _ refl) (number_of m.result) (named_at _ _ _ (number_of m.result) (number_of m.result) p.ensures m.ensures refl) x.result x.ensures _ c.in-Some.is (no_load _ (search rules)) _ _ _ _ _ (scoped _ _ _ _ _ _ _ (ap number_of c.in-SetScope.is) (asks c.args.job.now c.args.files.now _ l.nums _ c.args.count _ c.args.k c.args.left _ (turn_doing c.args.job.now c.args.files.now c.args.area.now c.args.nums.now c.args.log.now c.args.count c.args.k c.args.left c.args.s b.result z.result h b.ensures z.ensures l.area l.nums l.log l.words l.at l.u l.invariant _ _ d.result d.ensures _ _ _ (c.in-Ok-Some.is ∙ ap Ok c.in-Ok-Some.field-0-is) d.auto.area _ refl) (number_of m.result) (named_at _ _ _ (number_of m.result) (number_of m.result) p.ensures m.ensures refl) x.result x.ensures _ c.in-Some.is (no_load _ (search rules)) (known m.result)) _ _ _ _ c.set_scope.auto.area c.in-Err-set_scope.is (c.set_scope.ensures _ refl))) (numbered _)

pub read_file-loop-n-smaller-in-Ok : goal.read_file-loop-n-smaller-in-Ok
read_file-loop-n-smaller-in-Ok t c =
    let h = c.requires in let l = c.loop-n in let b = c.place-base in let z = c.place-len in let d = c.next_command in
    turn_less c.args.job.now c.args.files.now c.args.area.now c.args.nums.now c.args.log.now c.args.count c.args.k c.args.left c.args.s b.result z.result h b.ensures z.ensures l.area l.nums l.log l.words l.at l.u l.invariant _ _ d.result d.ensures _ _ _ (c.in-Ok-Some.is ∙ ap Ok c.in-Ok-Some.field-0-is)

pub read_file-loop-n-preserved-in-Ok : goal.read_file-loop-n-preserved-in-Ok
read_file-loop-n-preserved-in-Ok t c =
    let h = c.requires in let l = c.loop-n in let b = c.place-base in let z = c.place-len in let d = c.next_command in
    let p = c.pair in let m = c.named_command-c in let x = c.counted in
    turn_again c.args.job.now c.args.files.now c.args.area.now c.args.nums.now c.args.log.now c.args.count c.args.k c.args.left c.args.s b.result z.result h b.ensures z.ensures l.area l.nums l.log l.words l.at l.u l.invariant _ _ d.result d.ensures _ _ _ (c.in-Ok-Some.is ∙ ap Ok c.in-Ok-Some.field-0-is) d.auto.area _ refl _ _ _ _ (does c.args.job.now c.args.files.now _ l.nums _ c.args.count _ c.args.k c.args.left _ (turn_doing c.args.job.now c.args.files.now c.args.area.now c.args.nums.now c.args.log.now c.args.count c.args.k c.args.left c.args.s b.result z.result h b.ensures z.ensures l.area l.nums l.log l.words l.at l.u l.invariant _ _ d.result d.ensures _ _ _ (c.in-Ok-Some.is ∙ ap Ok c.in-Ok-Some.field-0-is) d.auto.area _ refl) (number_of m.result) (named_at _ _ _ (number_of m.result) (number_of m.result) p.ensures m.ensures refl) x.result x.ensures _ c.in-Some.is (no_load _ (search rules)) _ _ _ _ _ (placed_ran _ _ _ c.in_scope-u.ensures _ _ _ _ _ _ _ _ (scoped _ _ _ _ _ _ _ (ap number_of c.in-SetScope.is) (asks c.args.job.now c.args.files.now _ l.nums _ c.args.count _ c.args.k c.args.left _ (turn_doing c.args.job.now c.args.files.now c.args.area.now c.args.nums.now c.args.log.now c.args.count c.args.k c.args.left c.args.s b.result z.result h b.ensures z.ensures l.area l.nums l.log l.words l.at l.u l.invariant _ _ d.result d.ensures _ _ _ (c.in-Ok-Some.is ∙ ap Ok c.in-Ok-Some.field-0-is) d.auto.area _ refl) (number_of m.result) (named_at _ _ _ (number_of m.result) (number_of m.result) p.ensures m.ensures refl) x.result x.ensures _ c.in-Some.is (no_load _ (search rules)) (known m.result)) _ _ _ _ c.set_scope.auto.area c.in-Ok.is (c.set_scope.ensures _ refl)))) refl d.auto.words c.set_scope.auto.area refl refl

pub read_file-act-d-requires : goal.read_file-act-d-requires
read_file-act-d-requires t c =
    let h = c.requires in let l = c.loop-n in let b = c.place-base in let z = c.place-len in let d = c.next_command in
    let p = c.pair in let m = c.named_command-c in let x = c.counted in
    (acting _ _ _ _ _ _ _ (asks c.args.job.now c.args.files.now _ l.nums _ c.args.count _ c.args.k c.args.left _ (turn_doing c.args.job.now c.args.files.now c.args.area.now c.args.nums.now c.args.log.now c.args.count c.args.k c.args.left c.args.s b.result z.result h b.ensures z.ensures l.area l.nums l.log l.words l.at l.u l.invariant _ _ d.result d.ensures _ _ _ (c.in-Ok-Some.is ∙ ap Ok c.in-Ok-Some.field-0-is) d.auto.area _ refl) (number_of m.result) (named_at _ _ _ (number_of m.result) (number_of m.result) p.ensures m.ensures refl) x.result x.ensures _ c.in-Some.is (no_load _ (search rules)) (known m.result)) c.brief_of-b.result c.brief_of-b.ensures (no_puts _ (search rules)) (no_scope _ (search rules)))

pub read_file-returns-then-refused : goal.read_file-returns-then-refused
read_file-returns-then-refused t c =
    let h = c.requires in let l = c.loop-n in let b = c.place-base in let z = c.place-len in let d = c.next_command in
    let p = c.pair in let m = c.named_command-c in let x = c.counted in
    turn_failed c.args.job.now c.args.files.now c.args.area.now c.args.nums.now c.args.log.now c.args.count c.args.k c.args.left c.args.s b.result z.result h b.ensures z.ensures l.area l.nums l.log l.words l.at l.u l.invariant _ _ d.result d.ensures _ _ _ (c.in-Ok-Some.is ∙ ap Ok c.in-Ok-Some.field-0-is) d.auto.area _ refl _ _ _ _ (does c.args.job.now c.args.files.now _ l.nums _ c.args.count _ c.args.k c.args.left _ (turn_doing c.args.job.now c.args.files.now c.args.area.now c.args.nums.now c.args.log.now c.args.count c.args.k c.args.left c.args.s b.result z.result h b.ensures z.ensures l.area l.nums l.log l.words l.at l.u l.invariant _ _ d.result d.ensures _ _ _ (c.in-Ok-Some.is ∙ ap Ok c.in-Ok-Some.field-0-is) d.auto.area _ refl) (number_of m.result) (named_at _ _ _ (number_of m.result) (number_of m.result) p.ensures m.ensures refl) x.result x.ensures _ c.in-Some.is (no_load _ (search rules)) _ _ _ _ _ (deed_refused _ _ _ _ _ _ _ _ c.act-d.result (acts_of _ _ _ _ _ _ _ (asks c.args.job.now c.args.files.now _ l.nums _ c.args.count _ c.args.k c.args.left _ (turn_doing c.args.job.now c.args.files.now c.args.area.now c.args.nums.now c.args.log.now c.args.count c.args.k c.args.left c.args.s b.result z.result h b.ensures z.ensures l.area l.nums l.log l.words l.at l.u l.invariant _ _ d.result d.ensures _ _ _ (c.in-Ok-Some.is ∙ ap Ok c.in-Ok-Some.field-0-is) d.auto.area _ refl) (number_of m.result) (named_at _ _ _ (number_of m.result) (number_of m.result) p.ensures m.ensures refl) x.result x.ensures _ c.in-Some.is (no_load _ (search rules)) (known m.result)) c.brief_of-b.result c.brief_of-b.ensures (no_puts _ (search rules)) (no_scope _ (search rules)) _ _ c.act-d.ensures) l.log (told _ _ _ c.refused.ensures c.if-refused.true))) (λ q. absurd (omega (arith, q)))

-- the deed, and the state when its rows and warnings are counted
abbrev read_file-deed : (t : ℕ) → read_file-After-warnings_with-warnings t → Deed
read_file-deed t c = c.act-d.result

abbrev read_file-state : (t : ℕ) → read_file-After-warnings_with-warnings t → State
read_file-state t c = with_counts (with_entries (begun_at c.loop-n.u c.in-Ok-Some.field-0-0.end) c.in-Some.t) c.rows_with-rows.result c.warnings_with-warnings.result

abbrev read_file-Did : (t : ℕ) → read_file-After-warnings_with-warnings t → Type 0
read_file-Did t c =
    let a = c.args in let h = c.requires in let l = c.loop-n in let b = c.place-base in let z = c.place-len in let d = c.next_command in
    Did a.job.now a.files.now a.area.now a.nums.now a.log.now a.count a.k a.left a.s b.result z.result l.at d.new.area c.act-d.new.nums l.log d.new.words c.in-Ok-Some.field-0-0.next (read_file-state t c) (read_file-deed t c)

-- a deed that is not refused: its place is in its table, and with its record the loop goes on
read_file-did : (t : ℕ) (c : read_file-After-warnings_with-warnings t) → read_file-Did t c
read_file-did t c =
    let a = c.args in let h = c.requires in let l = c.loop-n in let b = c.place-base in let z = c.place-len in let d = c.next_command in
    let p = c.pair in let m = c.named_command-c in let x = c.counted in
    record {
      fits = deed_fits _ _ _ _ _ _ _ _ c.act-d.result (acts_of _ _ _ _ _ _ _ (asks a.job.now a.files.now _ l.nums _ a.count _ a.k a.left _ (turn_doing a.job.now a.files.now a.area.now a.nums.now a.log.now a.count a.k a.left a.s b.result z.result h b.ensures z.ensures l.area l.nums l.log l.words l.at l.u l.invariant _ _ d.result d.ensures _ _ _ (c.in-Ok-Some.is ∙ ap Ok c.in-Ok-Some.field-0-is) d.auto.area _ refl) (number_of m.result) (named_at _ _ _ (number_of m.result) (number_of m.result) p.ensures m.ensures refl) x.result x.ensures _ c.in-Some.is (no_load _ (search rules)) (known m.result)) c.brief_of-b.result c.brief_of-b.ensures (no_puts _ (search rules)) (no_scope _ (search rules)) _ _ c.act-d.ensures) l.log (told _ _ _ c.refused.ensures c.if-refused.false) c.rows_with-rows.result c.warnings_with-warnings.result c.rows_with-rows.ensures c.warnings_with-warnings.ensures;
      less = turn_less a.job.now a.files.now a.area.now a.nums.now a.log.now a.count a.k a.left a.s b.result z.result h b.ensures z.ensures l.area l.nums l.log l.words l.at l.u l.invariant _ _ d.result d.ensures _ _ _ (c.in-Ok-Some.is ∙ ap Ok c.in-Ok-Some.field-0-is);
      again = λ v e. turn_again a.job.now a.files.now a.area.now a.nums.now a.log.now a.count a.k a.left a.s b.result z.result h b.ensures z.ensures l.area l.nums l.log l.words l.at l.u l.invariant _ _ d.result d.ensures _ _ _ (c.in-Ok-Some.is ∙ ap Ok c.in-Ok-Some.field-0-is) d.auto.area _ refl _ _ _ _ (does a.job.now a.files.now _ l.nums _ a.count _ a.k a.left _ (turn_doing a.job.now a.files.now a.area.now a.nums.now a.log.now a.count a.k a.left a.s b.result z.result h b.ensures z.ensures l.area l.nums l.log l.words l.at l.u l.invariant _ _ d.result d.ensures _ _ _ (c.in-Ok-Some.is ∙ ap Ok c.in-Ok-Some.field-0-is) d.auto.area _ refl) (number_of m.result) (named_at _ _ _ (number_of m.result) (number_of m.result) p.ensures m.ensures refl) x.result x.ensures _ c.in-Some.is (no_load _ (search rules)) _ _ _ _ _ (deed_done _ _ _ _ _ _ _ _ c.act-d.result (acts_of _ _ _ _ _ _ _ (asks a.job.now a.files.now _ l.nums _ a.count _ a.k a.left _ (turn_doing a.job.now a.files.now a.area.now a.nums.now a.log.now a.count a.k a.left a.s b.result z.result h b.ensures z.ensures l.area l.nums l.log l.words l.at l.u l.invariant _ _ d.result d.ensures _ _ _ (c.in-Ok-Some.is ∙ ap Ok c.in-Ok-Some.field-0-is) d.auto.area _ refl) (number_of m.result) (named_at _ _ _ (number_of m.result) (number_of m.result) p.ensures m.ensures refl) x.result x.ensures _ c.in-Some.is (no_load _ (search rules)) (known m.result)) c.brief_of-b.result c.brief_of-b.ensures (no_puts _ (search rules)) (no_scope _ (search rules)) _ _ c.act-d.ensures) l.log (told _ _ _ c.refused.ensures c.if-refused.false) c.rows_with-rows.result c.warnings_with-warnings.result c.rows_with-rows.ensures c.warnings_with-warnings.ensures v e)) refl d.auto.words refl c.act-d.auto.nums refl;
    }

pub read_file-add_variable-u-requires : goal.read_file-add_variable-u-requires
read_file-add_variable-u-requires t c =
    let e = (goal.at.read_file-add_variable-u-requires t c).After-warnings_with-warnings in
    variable_fits (read_file-state t e) (read_file-deed t e) _ _ c.in-Variable.is (read_file-did t e).fits

pub read_file-loop-n-smaller-in-Variable : goal.read_file-loop-n-smaller-in-Variable
read_file-loop-n-smaller-in-Variable t c = (read_file-did t (goal.at.read_file-loop-n-smaller-in-Variable t c).After-warnings_with-warnings).less

pub read_file-loop-n-preserved-in-Variable : goal.read_file-loop-n-preserved-in-Variable
read_file-loop-n-preserved-in-Variable t c =
    let e = (goal.at.read_file-loop-n-preserved-in-Variable t c).After-warnings_with-warnings in
    (read_file-did t e).again _ (variable_done (read_file-state t e) (read_file-deed t e) _ _ _ c.in-Variable.is c.add_variable-u.ensures)

pub read_file-loop-n-smaller-in-Top : goal.read_file-loop-n-smaller-in-Top
read_file-loop-n-smaller-in-Top t c = (read_file-did t (goal.at.read_file-loop-n-smaller-in-Top t c).After-warnings_with-warnings).less

pub read_file-loop-n-preserved-in-Top : goal.read_file-loop-n-preserved-in-Top
read_file-loop-n-preserved-in-Top t c =
    let e = (goal.at.read_file-loop-n-preserved-in-Top t c).After-warnings_with-warnings in
    (read_file-did t e).again _ (top_done (read_file-state t e) (read_file-deed t e) _ _ c.in-Top.is c.with_top-u.ensures)

pub read_file-add-u-requires : goal.read_file-add-u-requires
read_file-add-u-requires t c =
    let e = (goal.at.read_file-add-u-requires t c).After-warnings_with-warnings in
    (omega arith, domain_fits_lem (read_file-state t e) (read_file-deed t e) _ c.in-Domain.is (read_file-did t e).fits)

pub read_file-loop-n-smaller-in-Domain : goal.read_file-loop-n-smaller-in-Domain
read_file-loop-n-smaller-in-Domain t c = (read_file-did t (goal.at.read_file-loop-n-smaller-in-Domain t c).After-warnings_with-warnings).less

pub read_file-loop-n-preserved-in-Domain : goal.read_file-loop-n-preserved-in-Domain
read_file-loop-n-preserved-in-Domain t c =
    let e = (goal.at.read_file-loop-n-preserved-in-Domain t c).After-warnings_with-warnings in
    (read_file-did t e).again _ (domain_done (read_file-state t e) (read_file-deed t e) _ _ c.in-Domain.is c.add-u.ensures)

pub read_file-replace-u-requires : goal.read_file-replace-u-requires
read_file-replace-u-requires t c =
    let e = (goal.at.read_file-replace-u-requires t c).After-warnings_with-warnings in
    (omega arith, supplied_fits (read_file-state t e) (read_file-deed t e) _ _ c.in-Supplied.is (read_file-did t e).fits)

pub read_file-loop-n-smaller-in-Supplied : goal.read_file-loop-n-smaller-in-Supplied
read_file-loop-n-smaller-in-Supplied t c = (read_file-did t (goal.at.read_file-loop-n-smaller-in-Supplied t c).After-warnings_with-warnings).less

pub read_file-loop-n-preserved-in-Supplied : goal.read_file-loop-n-preserved-in-Supplied
read_file-loop-n-preserved-in-Supplied t c =
    let e = (goal.at.read_file-loop-n-preserved-in-Supplied t c).After-warnings_with-warnings in
    (read_file-did t e).again _ (supplied_done (read_file-state t e) (read_file-deed t e) _ _ _ c.in-Supplied.is c.replace-u.ensures)

pub read_file-add-u-requires-in-Net : goal.read_file-add-u-requires-in-Net
read_file-add-u-requires-in-Net t c =
    let e = (goal.at.read_file-add-u-requires-in-Net t c).After-warnings_with-warnings in
    (omega arith, net_fits (read_file-state t e) (read_file-deed t e) _ c.in-Net.is (read_file-did t e).fits)

pub read_file-loop-n-smaller-in-Net : goal.read_file-loop-n-smaller-in-Net
read_file-loop-n-smaller-in-Net t c = (read_file-did t (goal.at.read_file-loop-n-smaller-in-Net t c).After-warnings_with-warnings).less

pub read_file-loop-n-preserved-in-Net : goal.read_file-loop-n-preserved-in-Net
read_file-loop-n-preserved-in-Net t c =
    let e = (goal.at.read_file-loop-n-preserved-in-Net t c).After-warnings_with-warnings in
    (read_file-did t e).again _ (net_done (read_file-state t e) (read_file-deed t e) _ _ c.in-Net.is c.add-u-in-Net.ensures)

pub read_file-add-u-requires-in-Port : goal.read_file-add-u-requires-in-Port
read_file-add-u-requires-in-Port t c =
    let e = (goal.at.read_file-add-u-requires-in-Port t c).After-warnings_with-warnings in
    (omega arith, port_fits (read_file-state t e) (read_file-deed t e) _ c.in-Port.is (read_file-did t e).fits)

pub read_file-loop-n-smaller-in-Port : goal.read_file-loop-n-smaller-in-Port
read_file-loop-n-smaller-in-Port t c = (read_file-did t (goal.at.read_file-loop-n-smaller-in-Port t c).After-warnings_with-warnings).less

pub read_file-loop-n-preserved-in-Port : goal.read_file-loop-n-preserved-in-Port
read_file-loop-n-preserved-in-Port t c =
    let e = (goal.at.read_file-loop-n-preserved-in-Port t c).After-warnings_with-warnings in
    (read_file-did t e).again _ (port_done (read_file-state t e) (read_file-deed t e) _ _ c.in-Port.is c.add-u-in-Port.ensures)

pub read_file-add-u-requires-in-Isolation : goal.read_file-add-u-requires-in-Isolation
read_file-add-u-requires-in-Isolation t c =
    let e = (goal.at.read_file-add-u-requires-in-Isolation t c).After-warnings_with-warnings in
    (omega arith, isolation_fits (read_file-state t e) (read_file-deed t e) _ c.in-Isolation.is (read_file-did t e).fits)

pub read_file-loop-n-smaller-in-Isolation : goal.read_file-loop-n-smaller-in-Isolation
read_file-loop-n-smaller-in-Isolation t c = (read_file-did t (goal.at.read_file-loop-n-smaller-in-Isolation t c).After-warnings_with-warnings).less

pub read_file-loop-n-preserved-in-Isolation : goal.read_file-loop-n-preserved-in-Isolation
read_file-loop-n-preserved-in-Isolation t c =
    let e = (goal.at.read_file-loop-n-preserved-in-Isolation t c).After-warnings_with-warnings in
    (read_file-did t e).again _ (isolation_done (read_file-state t e) (read_file-deed t e) _ _ c.in-Isolation.is c.add-u-in-Isolation.ensures)

pub read_file-replace-u-requires-in-Controlled : goal.read_file-replace-u-requires-in-Controlled
read_file-replace-u-requires-in-Controlled t c =
    let e = (goal.at.read_file-replace-u-requires-in-Controlled t c).After-warnings_with-warnings in
    (omega arith, controlled_fits (read_file-state t e) (read_file-deed t e) _ _ c.in-Controlled.is (read_file-did t e).fits)

pub read_file-loop-n-smaller-in-Controlled : goal.read_file-loop-n-smaller-in-Controlled
read_file-loop-n-smaller-in-Controlled t c = (read_file-did t (goal.at.read_file-loop-n-smaller-in-Controlled t c).After-warnings_with-warnings).less

pub read_file-loop-n-preserved-in-Controlled : goal.read_file-loop-n-preserved-in-Controlled
read_file-loop-n-preserved-in-Controlled t c =
    let e = (goal.at.read_file-loop-n-preserved-in-Controlled t c).After-warnings_with-warnings in
    (read_file-did t e).again _ (controlled_done (read_file-state t e) (read_file-deed t e) _ _ _ c.in-Controlled.is c.replace-u-in-Controlled.ensures)

pub read_file-add-u-requires-in-Retention : goal.read_file-add-u-requires-in-Retention
read_file-add-u-requires-in-Retention t c =
    let e = (goal.at.read_file-add-u-requires-in-Retention t c).After-warnings_with-warnings in
    (omega arith, retention_fits (read_file-state t e) (read_file-deed t e) _ c.in-Retention.is (read_file-did t e).fits)

pub read_file-loop-n-smaller-in-Retention : goal.read_file-loop-n-smaller-in-Retention
read_file-loop-n-smaller-in-Retention t c = (read_file-did t (goal.at.read_file-loop-n-smaller-in-Retention t c).After-warnings_with-warnings).less

pub read_file-loop-n-preserved-in-Retention : goal.read_file-loop-n-preserved-in-Retention
read_file-loop-n-preserved-in-Retention t c =
    let e = (goal.at.read_file-loop-n-preserved-in-Retention t c).After-warnings_with-warnings in
    (read_file-did t e).again _ (retention_done (read_file-state t e) (read_file-deed t e) _ _ c.in-Retention.is c.add-u-in-Retention.ensures)

pub read_file-add-u-requires-in-Shifter : goal.read_file-add-u-requires-in-Shifter
read_file-add-u-requires-in-Shifter t c =
    let e = (goal.at.read_file-add-u-requires-in-Shifter t c).After-warnings_with-warnings in
    (omega arith, shifter_fits (read_file-state t e) (read_file-deed t e) _ c.in-Shifter.is (read_file-did t e).fits)

pub read_file-loop-n-smaller-in-Shifter : goal.read_file-loop-n-smaller-in-Shifter
read_file-loop-n-smaller-in-Shifter t c = (read_file-did t (goal.at.read_file-loop-n-smaller-in-Shifter t c).After-warnings_with-warnings).less

pub read_file-loop-n-preserved-in-Shifter : goal.read_file-loop-n-preserved-in-Shifter
read_file-loop-n-preserved-in-Shifter t c =
    let e = (goal.at.read_file-loop-n-preserved-in-Shifter t c).After-warnings_with-warnings in
    (read_file-did t e).again _ (shifter_done (read_file-state t e) (read_file-deed t e) _ _ c.in-Shifter.is c.add-u-in-Shifter.ensures)

pub read_file-add-u-requires-in-Table : goal.read_file-add-u-requires-in-Table
read_file-add-u-requires-in-Table t c =
    let e = (goal.at.read_file-add-u-requires-in-Table t c).After-warnings_with-warnings in
    (omega arith, table_fits (read_file-state t e) (read_file-deed t e) _ c.in-Table.is (read_file-did t e).fits)

pub read_file-loop-n-smaller-in-Table : goal.read_file-loop-n-smaller-in-Table
read_file-loop-n-smaller-in-Table t c = (read_file-did t (goal.at.read_file-loop-n-smaller-in-Table t c).After-warnings_with-warnings).less

pub read_file-loop-n-preserved-in-Table : goal.read_file-loop-n-preserved-in-Table
read_file-loop-n-preserved-in-Table t c =
    let e = (goal.at.read_file-loop-n-preserved-in-Table t c).After-warnings_with-warnings in
    (read_file-did t e).again _ (table_done (read_file-state t e) (read_file-deed t e) _ _ c.in-Table.is c.add-u-in-Table.ensures)

pub read_file-add-u-requires-in-Switch : goal.read_file-add-u-requires-in-Switch
read_file-add-u-requires-in-Switch t c =
    let e = (goal.at.read_file-add-u-requires-in-Switch t c).After-warnings_with-warnings in
    (omega arith, switch_fits (read_file-state t e) (read_file-deed t e) _ _ c.in-Switch.is (read_file-did t e).fits)

pub read_file-loop-n-smaller-in-Switch : goal.read_file-loop-n-smaller-in-Switch
read_file-loop-n-smaller-in-Switch t c = (read_file-did t (goal.at.read_file-loop-n-smaller-in-Switch t c).After-warnings_with-warnings).less

pub read_file-loop-n-preserved-in-Switch : goal.read_file-loop-n-preserved-in-Switch
read_file-loop-n-preserved-in-Switch t c =
    let e = (goal.at.read_file-loop-n-preserved-in-Switch t c).After-warnings_with-warnings in
    (read_file-did t e).again _ (switch_done (read_file-state t e) (read_file-deed t e) _ _ _ c.in-Switch.is c.add-u-in-Switch.ensures)

pub read_file-add-u-requires-in-PortState : goal.read_file-add-u-requires-in-PortState
read_file-add-u-requires-in-PortState t c =
    let e = (goal.at.read_file-add-u-requires-in-PortState t c).After-warnings_with-warnings in
    (omega arith, portstate_fits (read_file-state t e) (read_file-deed t e) _ _ c.in-PortState.is (read_file-did t e).fits)

pub read_file-loop-n-smaller-in-PortState : goal.read_file-loop-n-smaller-in-PortState
read_file-loop-n-smaller-in-PortState t c = (read_file-did t (goal.at.read_file-loop-n-smaller-in-PortState t c).After-warnings_with-warnings).less

pub read_file-loop-n-preserved-in-PortState : goal.read_file-loop-n-preserved-in-PortState
read_file-loop-n-preserved-in-PortState t c =
    let e = (goal.at.read_file-loop-n-preserved-in-PortState t c).After-warnings_with-warnings in
    (read_file-did t e).again _ (portstate_done (read_file-state t e) (read_file-deed t e) _ _ _ c.in-PortState.is c.add-u-in-PortState.ensures)

pub read_file-loop-n-smaller : goal.read_file-loop-n-smaller
read_file-loop-n-smaller t c = (read_file-did t (goal.at.read_file-loop-n-smaller t c).After-warnings_with-warnings).less

pub read_file-loop-n-preserved : goal.read_file-loop-n-preserved
read_file-loop-n-preserved t c =
    let e = (goal.at.read_file-loop-n-preserved t c).After-warnings_with-warnings in
    (read_file-did t e).again _ (done_other (read_file-state t e) (read_file-deed t e) (search rules))
