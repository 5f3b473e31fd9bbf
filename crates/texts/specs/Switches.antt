-- Power switches: their conditions (the Rust's `bool_expr`), their glue, report lines and warnings.
-- Assumes nothing.
use Rattle.std.specs.Prelude.{ℕ, ◌+◌, cond, take, Option, None, Some}
use mathlib.Core.List.{List, [], ◌∷◌, ◌++◌, map, flat_map}
use Rattle.text.specs.Ascii.{Bytes, ascii}
use Rattle.text.specs.Classes.{is_digit, is_variable}
use Rattle.text.specs.Compare.{same}
use Rattle.text.specs.Scan.{all, before}
use Rattle.out.specs.Emit.{◌⊕◌}
use Rattle.out.specs.Fill.{format1, format2, format3, format4}
use Rattle.out.specs.Items.{each, joined}
use Rattle.tcl.specs.Rewrite.{rewrite}
use Rattle.tcl.specs.Substitution.{no_variable}
use Rattle.model.specs.Records.{Control, OnState, Switch}
use Rattle.texts.specs.Setting.{Setting, hier}

-- ---- conditions: words of letters, digits and `_` are control ports, numbers, or unknown; every other byte stays

-- the signal of a control port: of two for one port the last counts
unfoldable pub signal_of : Setting → List Control → Bytes → Option Bytes → Option Bytes
signal_of s [] port found = found
signal_of s (c ∷ cs) port found = signal_of s cs port (cond (same c.port port) (Some (hier s c.signal)) found)

-- how many bytes the word at the head has besides its first: 0 where it is no word
unfoldable pub word_more : Bytes → ℕ
word_more [] = 0
word_more (b ∷ t) = cond (is_variable b) (before no_variable t) 0

-- the word at the head
abbrev pub word_at : Bytes → Bytes
word_at t = take (1 + word_more t) t

abbrev pub unknown_text : Bytes → Bytes
unknown_text w = cond (all is_digit w) w (ascii "1'bx")

abbrev pub word_text : Option Bytes → Bytes → Bytes
word_text (Some sig) w = sig
word_text None w = unknown_text w

-- what stands for the piece at the head
unfoldable pub piece_text : Setting → List Control → Bytes → Bytes
piece_text s cs [] = []
piece_text s cs (b ∷ t) = cond (is_variable b) (word_text (signal_of s cs (word_at (b ∷ t)) None) (word_at (b ∷ t))) (b ∷ [])

abbrev pub condition : Setting → List Control → Bytes → Bytes
condition s cs e = rewrite word_more (piece_text s cs) 0 e

-- the words that are no control port and no number, as often as they stand there
abbrev pub unless_known : Option Bytes → Bytes → List Bytes
unless_known (Some sig) w = []
unless_known None w = cond (all is_digit w) [] (format1 "power switch state uses unknown control port '{0}'" w ∷ [])

unfoldable pub unknowns : Setting → List Control → ℕ → Bytes → List Bytes
unknowns s cs skip [] = []
unknowns s cs ℕ.zero (b ∷ t) =
    cond (is_variable b) (unless_known (signal_of s cs (word_at (b ∷ t)) None) (word_at (b ∷ t))) []
    ++ unknowns s cs (word_more (b ∷ t)) t
unknowns s cs (ℕ.suc skip) (b ∷ t) = unknowns s cs skip t

-- ---- a switch

abbrev pub on_condition : Setting → Switch → OnState → Bytes
on_condition s w o = format1 "({0})" (condition s w.controls o.condition)

abbrev pub or_off : List OnState → Bytes → Bytes
or_off [] text = ascii "1'b0"
or_off (o ∷ os) text = text

abbrev pub switch_on : Setting → Switch → Bytes
switch_on s w = or_off w.on_states (joined (ascii " || ") (map (on_condition s w) w.on_states))

-- {0} the input's net, {1} the output's, {2} the condition, {3} the switch
abbrev pub switch_state : Setting → Switch → Bytes
switch_state s w =
    format4 "  assign upf__{b} = ({2}) ? upf__{a} : (({2}) === 1'b0 ? 1'b0 : 1'bx);\n  always @* upf__{b}_v = ({2}) ? upf__{a}_v : 0.0;\n  logic [1:0] upf_swst__{d} = 2'd3;\n"
    w.input.net w.output.net (switch_on s w) w.name

-- {0} the signal, {1} the condition, {2} the switch, {3} the port
abbrev pub control_block : Setting → Switch → Control → Bytes
control_block s w c =
    format4 "  always @({0}) begin\n    if (({1}) === 1'b1) begin if (upf_swst__{c} != 2'd1) $display(\"[UPF] Time: %0t, Power switch '{2}': control '{3}' = %b, state FULL_ON\", $time, {0}); upf_swst__{c} = 2'd1; end\n    else if (({1}) === 1'b0) begin if (upf_swst__{c} != 2'd0) $display(\"[UPF] Time: %0t, Power switch '{2}': control '{3}' = %b, state OFF\", $time, {0}); upf_swst__{c} = 2'd0; end\n    else begin if (upf_swst__{c} != 2'd2) $display(\"[UPF] Time: %0t, Power switch '{2}': control '{3}' = %b, state UNDETERMINED\", $time, {0}); upf_swst__{c} = 2'd2; end\n  end\n"
    (hier s c.signal) (switch_on s w) w.name c.port

abbrev pub switch_glue : Setting → Switch → Bytes
switch_glue s w = switch_state s w ⊕ each (control_block s w) w.controls

abbrev pub controlled : Switch → Bytes
controlled w = joined (ascii ",") (map (λ (c : Control). format2 "{0}={1}" c.port c.signal) w.controls)

abbrev pub switch_line : Switch → Bytes
switch_line w = format4 "power switch {0}: {1} -> {2} controlled by {3}\n" w.name w.input.net w.output.net (controlled w)

-- an on-state of another port than the input's is remarked, then the unknown words of its condition
abbrev pub on_warnings : Setting → Switch → OnState → List Bytes
on_warnings s w o =
    cond (same o.port w.input.port) [] (format3 "power switch '{0}': on_state uses input port '{1}' (expected '{2}')" w.name o.port w.input.port ∷ [])
    ++ unknowns s w.controls 0 o.condition

abbrev pub switch_warnings : Setting → List Bytes
switch_warnings s = flat_map (λ (w : Switch). flat_map (on_warnings s w) w.on_states) s.records.switches
