-- `statecmds::create_power_switch` meets its contract. Assumes nothing.
use mathlib.Core.List.{◌++◌}
use Rattle.text.specs.Ascii.{ascii}
use Rattle.spans.specs.Span.{bytes, pair_at}
use Rattle.args.specs.View.{words_from}
use Rattle.model.specs.Records.{Model}
use Rattle.model.specs.Commands.{switch_command}
use Rattle.statecmds.specs.Switches.{both_long, switch_told, switch_full, switch_room, switch_room_2, switch_room_3, switch_words_did}
use Rattle.statecmds.proofs.create_power_switch.Goals as goal

pub returns-then-b-ge32 : goal.returns-then-b-ge32
returns-then-b-ge32 c =
    switch_full c.args.mem.now.files.now c.args.mem.now.area.now c.args.command.now.rows.now c.args.command.now.n c.args.nums.now c.args.b (ascii "-on_state") (ascii "-off_state") c.requires c.if-b-ge32.true

pub put_states-mid-requires : goal.put_states-mid-requires
put_states-mid-requires c =
    switch_room (c.args.mem.now.files.now ++ c.args.mem.now.area.now) c.args.command.now.rows.now c.args.command.now.n c.args.nums.now c.args.b (ascii "-on_state") (ascii "-off_state") c.requires c.if-b-ge32.false

pub put_states-end-requires : goal.put_states-end-requires
put_states-end-requires c =
    switch_room_2 (c.args.mem.now.files.now ++ c.args.mem.now.area.now) c.args.command.now.rows.now c.args.command.now.n c.args.nums.now c.args.b (ascii "-on_state") (ascii "-off_state") c.requires _ _ c.put_states-mid.ensures c.if-b-ge32.false

pub switch-x-requires : goal.switch-x-requires
switch-x-requires c =
    switch_room_3 (c.args.mem.now.files.now ++ c.args.mem.now.area.now) c.args.command.now.rows.now c.args.command.now.n c.args.nums.now c.args.b (ascii "-on_state") (ascii "-off_state") c.requires _ _ _ _ c.put_states-mid.ensures c.put_states-end.ensures c.if-b-ge32.false

pub shape_of-nums : goal.shape_of-nums
shape_of-nums c =
    both_long (c.args.mem.now.files.now ++ c.args.mem.now.area.now) c.args.command.now.rows.now c.args.command.now.n c.args.nums.now c.args.b (ascii "-on_state") (ascii "-off_state") c.requires _ _ _ _ c.put_states-mid.ensures c.put_states-end.ensures

pub returns : goal.returns
returns c =
    switch_words_did c.args.mem.now.files.now c.args.mem.now.area.now c.args.command.now.rows.now c.args.command.now.n c.args.nums.now c.args.b (ascii "-on_state") (ascii "-off_state") c.requires _ _ _ _ c.put_states-mid.ensures c.put_states-end.ensures (λ (m : Model). switch_command m (bytes (c.args.mem.now.files.now ++ c.args.mem.now.area.now) (pair_at c.args.command.now.rows.now 0)) (words_from (c.args.mem.now.files.now ++ c.args.mem.now.area.now) c.args.command.now.rows.now c.args.command.now.n 1)) (λ m. switch_told m _ _) c.switch-x.result c.if-b-ge32.false c.switch-x.ensures
