-- `statecmds::add_port_state` meets its contract. Assumes nothing.
use mathlib.Core.List.{◌++◌}
use Rattle.text.specs.Ascii.{ascii}
use Rattle.spans.specs.Span.{bytes, pair_at}
use Rattle.args.specs.View.{words_from}
use Rattle.model.specs.Records.{Model}
use Rattle.model.specs.Commands.{port_state_command}
use Rattle.made.specs.Asked.{read_fits}
use Rattle.statecmds.specs.Switches.{port_told, port_full, port_room, port_first, port_begins, port_count_fits, port_words_did}
use Rattle.statecmds.proofs.add_port_state.Goals as goal

pub returns-then-b-ge32 : goal.returns-then-b-ge32
returns-then-b-ge32 c =
    port_full c.args.mem.now.files.now c.args.mem.now.area.now c.args.command.now.rows.now c.args.command.now.n c.args.nums.now c.args.b (ascii "-state") (ascii "-state") c.requires c.if-b-ge32.true

pub put_states-end-requires : goal.put_states-end-requires
put_states-end-requires c =
    port_room (c.args.mem.now.files.now ++ c.args.mem.now.area.now) c.args.command.now.rows.now c.args.command.now.n c.args.nums.now c.args.b (ascii "-state") (ascii "-state") c.requires c.if-b-ge32.false

pub narrow-requires : goal.narrow-requires
narrow-requires c = read_fits _ _ _ _ _ c.name-named.ensures c.requires.line

pub overflow_cast-x : goal.overflow_cast-x
overflow_cast-x c =
    record { fits = port_first (c.args.mem.now.files.now ++ c.args.mem.now.area.now) c.args.command.now.rows.now c.args.command.now.n c.args.nums.now c.args.b (ascii "-state") (ascii "-state") c.requires _ _ c.put_states-end.ensures c.if-b-ge32.false }

pub overflow_sub-x : goal.overflow_sub-x
overflow_sub-x c =
    port_begins (c.args.mem.now.files.now ++ c.args.mem.now.area.now) c.args.command.now.rows.now c.args.command.now.n c.args.nums.now c.args.b (ascii "-state") (ascii "-state") c.requires _ _ c.put_states-end.ensures

pub overflow_cast-x-2 : goal.overflow_cast-x-2
overflow_cast-x-2 c =
    record { fits = port_count_fits (c.args.mem.now.files.now ++ c.args.mem.now.area.now) c.args.command.now.rows.now c.args.command.now.n c.args.nums.now c.args.b (ascii "-state") (ascii "-state") c.requires _ _ c.put_states-end.ensures c.if-b-ge32.false }

pub returns : goal.returns
returns c =
    port_words_did c.args.mem.now.files.now c.args.mem.now.area.now c.args.command.now.rows.now c.args.command.now.n c.args.nums.now c.args.b (ascii "-state") c.requires _ _ c.put_states-end.ensures c.name-named.result c.narrow.result c.name-named.ensures c.narrow.ensures (λ (m : Model). port_state_command m (bytes (c.args.mem.now.files.now ++ c.args.mem.now.area.now) (pair_at c.args.command.now.rows.now 0)) (words_from (c.args.mem.now.files.now ++ c.args.mem.now.area.now) c.args.command.now.rows.now c.args.command.now.n 1)) (λ m. port_told m _ _) c.if-b-ge32.false
