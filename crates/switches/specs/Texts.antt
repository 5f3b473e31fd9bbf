-- The texts of switches by what the code is lent: the scope's names, the control ports, the on-states. They are those of every setting with that scope.
-- Assumes nothing.
use Rattle.std.specs.Prelude.{ℕ, ◌+◌, ◌≤◌, ◌≡◌, refl, cond, length}
use Rattle.std.proofs.Common.{ap, ap₂}
use mathlib.Core.List.{List, [], ◌∷◌, ◌++◌, map, flat_map}
use Rattle.text.specs.Ascii.{Bytes, ascii}
use Rattle.text.specs.Compare.{same}
use Rattle.out.specs.Emit.{Out, emit, ◌⊕◌}
use Rattle.out.specs.Text.{shown, SameRoom}
use Rattle.out.specs.declared.emit.Text.{Text}
use Rattle.out.specs.Fill.{format1, format2, format3, format4}
use Rattle.out.specs.Items.{each, joined}
use Rattle.names.specs.Name.{name_of}
use Rattle.nametable.specs.Table.{row_name}
use Rattle.design.specs.Paths.{element_path}
use Rattle.model.specs.Records.{Control, OnState, Switch as Switchʳ}
use Rattle.texts.specs.Setting.{Setting}
use Rattle.texts.specs.Switches.{condition, unknowns, or_off, on_condition, switch_on, control_block, switch_glue, switch_line, on_warnings}
use Rattle.texts.specs.Texts.{warning_line}
use Rattle.format.specs.Args.{arg_of}
use Rattle.format.specs.declared.arg.Arg.{Arg}
use Rattle.store.specs.View.{switch_of}
use Rattle.store.specs.declared.stored.Stored.{Stored}
use Rattle.store.specs.declared.state.Switch.{Switch}
use Rattle.conditions.specs.Controls.{scope_setting, condition_same, unknowns_same}

-- an argument that stands for a text, whatever the job and the scope
pub record ArgIs (mem t : Bytes) (r : Arg) : Type 0 where
  pub is : (job : Bytes) (scope : List Bytes) (top : Bytes) → arg_of job mem scope top r ≡ t

-- ---- the glue

abbrev pub on_text : Setting → List Control → OnState → Bytes
on_text s cs o = format1 "({0})" (condition s cs o.condition)

abbrev pub ons_text : Setting → List Control → List OnState → Bytes
ons_text s cs ons = or_off ons (joined (ascii " || ") (map (on_text s cs) ons))

-- {0} the input's net, {1} the output's, {2} the condition, {3} the switch
abbrev pub state_text : Bytes → Bytes → Bytes → Bytes → Bytes
state_text input output on name =
    format4 "  assign upf__{b} = ({2}) ? upf__{a} : (({2}) === 1'b0 ? 1'b0 : 1'bx);\n  always @* upf__{b}_v = ({2}) ? upf__{a}_v : 0.0;\n  logic [1:0] upf_swst__{d} = 2'd3;\n"
    input output on name

-- {0} the signal, {1} the condition, {2} the switch, {3} the port
abbrev pub signal_text : Bytes → Bytes → Bytes → Bytes → Bytes
signal_text signal on name port =
    format4 "  always @({0}) begin\n    if (({1}) === 1'b1) begin if (upf_swst__{c} != 2'd1) $display(\"[UPF] Time: %0t, Power switch '{2}': control '{3}' = %b, state FULL_ON\", $time, {0}); upf_swst__{c} = 2'd1; end\n    else if (({1}) === 1'b0) begin if (upf_swst__{c} != 2'd0) $display(\"[UPF] Time: %0t, Power switch '{2}': control '{3}' = %b, state OFF\", $time, {0}); upf_swst__{c} = 2'd0; end\n    else begin if (upf_swst__{c} != 2'd2) $display(\"[UPF] Time: %0t, Power switch '{2}': control '{3}' = %b, state UNDETERMINED\", $time, {0}); upf_swst__{c} = 2'd2; end\n  end\n"
    signal on name port

abbrev pub control_text : List Bytes → Bytes → Bytes → Control → Bytes
control_text scope on name c = signal_text (element_path scope c.signal) on name c.port

-- the control port in row i of a table, and its signal in the next row
abbrev pub control_at : Bytes → List ℕ → ℕ → Control
control_at mem table i = record { port = name_of mem (row_name table i); signal = name_of mem (row_name table (i + 1)) }

-- ---- the report

abbrev pub pair_text : Control → Bytes
pair_text c = format2 "{0}={1}" c.port c.signal

-- ---- warnings

abbrev pub on_remarks : Setting → Bytes → Bytes → List Control → OnState → List Bytes
on_remarks s name input cs o =
    cond (same o.port input) [] (format3 "power switch '{0}': on_state uses input port '{1}' (expected '{2}')" name o.port input ∷ [])
    ++ unknowns s cs 0 o.condition

-- the warnings ws written as lines behind o, which had n of them: `most` at most
pub record Told (most : ℕ) (o : Out) (n : ℕ) (ws : List Bytes) (o' : Out) (n' : ℕ) : Type 0 where
  pub text : o' ≡ emit o (each warning_line ws)
  pub count : n' ≡ n + length ws
  pub few : n' ≤ n + most

-- the same of texts that are being written
abbrev pub Tells : ℕ → Text → ℕ → List Bytes → Text → ℕ → Type 0
Tells most t n ws t' n' = SameRoom t t' × Told most (shown t) n ws (shown t') n'

-- ---- of every setting with that scope

map_same : {A B : Type 0} (f g : A → B) → ((x : A) → f x ≡ g x) → (xs : List A) → map f xs ≡ map g xs
map_same f g h [] = refl
map_same f g h (x ∷ xs) = ap₂ ◌∷◌ (h x) (map_same f g h xs)

each_same : {A : Type 0} (f g : A → Bytes) → ((x : A) → f x ≡ g x) → (xs : List A) → each f xs ≡ each g xs
unfolding each
each_same f g h [] = refl
each_same f g h (x ∷ xs) = ap₂ ◌++◌ (h x) (each_same f g h xs)

flat_same : {A B : Type 0} (f g : A → List B) → ((x : A) → f x ≡ g x) → (xs : List A) → flat_map f xs ≡ flat_map g xs
unfolding flat_map
flat_same f g h [] = refl
flat_same f g h (x ∷ xs) = ap₂ ◌++◌ (h x) (flat_same f g h xs)

on_same : (s : Setting) (w : Switchʳ) → switch_on (scope_setting s.scope) w ≡ switch_on s w
on_same s w = ap (λ (l : List Bytes). or_off w.on_states (joined (ascii " || ") l)) (map_same (on_condition (scope_setting s.scope) w) (on_condition s w) (λ o. ap (λ (t : Bytes). format1 "({0})" t) (condition_same s w.controls o.condition)) w.on_states)

glue_same : (s : Setting) (w : Switchʳ) → switch_glue (scope_setting s.scope) w ≡ switch_glue s w
glue_same s w =
    ap₂ ◌⊕◌ (ap (λ (t : Bytes). state_text w.input.net w.output.net t w.name) (on_same s w))
    (each_same (control_block (scope_setting s.scope) w) (control_block s w) (λ c. ap (λ (t : Bytes). control_text s.scope t w.name c) (on_same s w)) w.controls)

pub glues_same : (s : Setting) (ws : List Switchʳ) → each (switch_glue (scope_setting s.scope)) ws ≡ each (switch_glue s) ws
glues_same s ws = each_same (switch_glue (scope_setting s.scope)) (switch_glue s) (glue_same s) ws

on_warned : (s : Setting) (w : Switchʳ) (o : OnState) → on_warnings (scope_setting s.scope) w o ≡ on_warnings s w o
on_warned s w o = ap (λ (l : List Bytes). cond (same o.port w.input.port) [] (format3 "power switch '{0}': on_state uses input port '{1}' (expected '{2}')" w.name o.port w.input.port ∷ []) ++ l) (unknowns_same s w.controls 0 o.condition)

-- all warnings of switches
abbrev pub remarks : Setting → List Switchʳ → List Bytes
remarks s ws = flat_map (λ (w : Switchʳ). flat_map (on_warnings s w) w.on_states) ws

pub remarks_same : (s : Setting) (ws : List Switchʳ) → remarks (scope_setting s.scope) ws ≡ remarks s ws
remarks_same s ws = flat_same (λ (w : Switchʳ). flat_map (on_warnings (scope_setting s.scope) w) w.on_states) (λ (w : Switchʳ). flat_map (on_warnings s w) w.on_states) (λ w. flat_same (on_warnings (scope_setting s.scope) w) (on_warnings s w) (on_warned s w) w.on_states) ws

-- the line of a switch does not look at its states
line_same : (mem : Bytes) (ws : List Stored) (w : Switch) → switch_line (switch_of mem [] w) ≡ switch_line (switch_of mem ws w)
unfolding switch_of
line_same mem ws w = refl

pub lines_same : (mem : Bytes) (ws : List Stored) (l : List Switch) → each switch_line (map (switch_of mem []) l) ≡ each switch_line (map (switch_of mem ws) l)
unfolding each
lines_same mem ws [] = refl
lines_same mem ws (w ∷ l) = ap₂ ◌++◌ (line_same mem ws w) (lines_same mem ws l)
