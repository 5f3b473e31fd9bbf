-- Jobs answered by computation, from their bytes to the bytes of the texts: the worked example of "Marked runs", and small jobs that show one rule each.
-- Assumes nothing.
use Rattle.std.specs.Prelude.{ℕ, ◌≡◌, refl, cond, length, Option, None, Some}
use Prim.Native.String.{String, ◌++◌ as ◌++ˢ◌}
use mathlib.Core.List.{List, [], ◌∷◌, ◌++◌, flat_map}
use Rattle.text.specs.Ascii.{Bytes, ascii, byte}
use Rattle.text.specs.Compare.{same, less}
use Rattle.text.specs.Scan.{before, all, any, split_at}
use Rattle.text.specs.Numbers.{value_from, is_decimal}
use Rattle.out.specs.Emit.{◌⊕◌}
use Rattle.out.specs.Bytewise.{flat, mangled_byte, dotted_byte, sv_byte}
use Rattle.out.specs.Fill.{pick, arg, adds, turns, filled, fill}
use Rattle.out.specs.Items.{each, behind, joined}
use Rattle.out.specs.Number.{dec, decimal}
use Rattle.tcl.specs.Rewrite.{rewrite}
use Rattle.tcl.specs.Join.{joint_by, joined_by}
use Rattle.tcl.specs.Words.{span, depth, quote_state, kind_of, size_of, words_of}
use Rattle.tcl.specs.Commands.{reading as splitting}
use Rattle.tcl.specs.Substitution.{lookup, known, opens_by, closes_by, piece_more, piece_name, escape, costs}
use Rattle.tcl.specs.Lists.{together}
use Rattle.tcl.specs.Arguments.{is_option, role_of, positionals_from, option_from, has_flag_from, states_from}
use Rattle.fields.specs.Fields.{is_name, is_part, is_path, dims_of, dir_of, kind_of as decl_kind, style_of, is_net}
use Rattle.joblines.specs.Job.{Module, Job}
use Rattle.joblines.specs.Lines.{top_line, override_line, start_line, file_line, file_read, bytes_line, module_line, style_line, port_line, port_of, decl_line, decl_of, inst_line, inst_of, inst_read, conn_line, conn_of, end_line, read_line, module_read}
use Rattle.joblines.specs.Parse.{Parsed, lines, parse}
use Rattle.design.specs.Lists.{first, those, add_new, add_all}
use Rattle.design.specs.Lookup.{module_named, module_at}
use Rattle.design.specs.Search.{among_instances, search_from}
use Rattle.design.specs.Ports.{directed}
use Rattle.design.specs.Connections.{decided}
use Rattle.walk.specs.Walk.{entered, corruptible, sum_over, modules_entered, element_list, domain_list, element_entered, domain_entered, path_bytes}
use Rattle.model.specs.Records.{Model}
use Rattle.model.specs.Scope.{scoped, up, moved, entered as loaded}
use Rattle.model.specs.Names.{command_named}
use Rattle.model.specs.Commands.{on_first, set_command, puts_command, design_top_command, scope_command, domain_command, net_command, port_command, connect_command, supply_command, switch_command, isolation_command, control_command, retention_command, shifter_command, port_state_command, table_command, table_state_command, unsupported}
use Rattle.model.specs.Within.{total}
use Rattle.read.specs.Reading.{Reading, read_commands, file_named, read_file, reading}
use Rattle.texts.specs.Scope.{Scope, scope_of}
use Rattle.texts.specs.Setting.{Setting, setting_of}
use Rattle.texts.specs.Supplies.{net_of, supply_nets}
use Rattle.texts.specs.Switches.{signal_of, word_more, piece_text, unknowns}
use Rattle.texts.specs.Isolation.{resolved, covering, strategies, isolation, leaders}
use Rattle.texts.specs.Domains.{sorted_in_lem, sorted, always_block, initial_block}
use Rattle.texts.specs.ForceLines.{force_lines}
use Rattle.texts.specs.Texts.{warnings_of, glue_of, package_of, report_of, fits}

-- a refusal by its number, as what stands for a text
abbrev refusal : ℕ → Bytes
refusal n = n ∷ []

-- a text of an accepted job, or the number of its refusal
abbrev text_in : (Setting → Bytes) → Job → Model → Scope → Bytes
text_in f j m (Scope.at path base) = f (setting_of j path base m)
text_in f j m (Scope.no_scope n) = refusal n

abbrev text_from : (Setting → Bytes) → Job → Option Module → Reading → Bytes
text_from f j None r = []
text_from f j (Some top) (Reading.done n m) = text_in f j m (scope_of j top m.design_top)
text_from f j (Some top) (Reading.refused x k) = refusal x

abbrev text_of : (Setting → Bytes) → Parsed → Bytes
text_of f (Parsed.refused x n) = refusal x
text_of f (Parsed.accepted j) = text_from f j (module_named j.modules j.top) (reading j)

-- a text of a job: this one name opens all the definitions that it needs
unfoldable pub text : (Setting → Bytes) → Bytes → Bytes
unfolding flat_map same less before all any split_at value_from is_decimal ◌⊕◌ flat mangled_byte dotted_byte sv_byte pick arg adds turns filled fill each behind joined dec rewrite joint_by joined_by span depth quote_state kind_of size_of words_of splitting lookup known opens_by closes_by piece_more piece_name escape costs together is_option role_of positionals_from option_from has_flag_from states_from is_name is_part is_path dims_of dir_of decl_kind style_of is_net top_line override_line start_line file_line file_read bytes_line module_line style_line port_line port_of decl_line decl_of inst_line inst_of inst_read conn_line conn_of end_line read_line module_read lines parse first those add_new add_all module_at among_instances search_from directed decided entered corruptible sum_over modules_entered element_list domain_list element_entered domain_entered path_bytes scoped up moved loaded command_named on_first set_command puts_command design_top_command scope_command domain_command net_command port_command connect_command supply_command switch_command isolation_command control_command retention_command shifter_command port_state_command table_command table_state_command unsupported total read_commands file_named read_file scope_of net_of supply_nets signal_of word_more piece_text unknowns resolved covering strategies isolation leaders sorted_in_lem sorted always_block initial_block warnings_of glue_of package_of report_of fits
text f t = text_of f (parse t)

-- lines, each with its LF
abbrev lined : List String → Bytes
lined [] = []
lined (l ∷ ls) = ascii l ++ (byte "\n" ∷ lined ls)

-- a job with an override, one file of these commands, and module lines
abbrev job : String → List String → String → Bytes
job override commands modules =
    ascii ("top=top\noverride=" ++ˢ override ++ˢ "\nstart=p\nfile=p\nbytes=")
    ++ (decimal (length (lined commands)) ++ (byte "\n" ∷ (lined commands ++ ascii ("\n" ++ˢ modules))))

-- ---- module lines

-- of the worked example
abbrev marked : String
marked = "module=top\nstyle=empty\ninst=0 u1 core\nmodule=core\nstyle=ansi\nport=in clk\nport=out q\ndecl=net 0 w\ndecl=odd 0 r\nend=\n"

-- two instances of one module, the second with `star`
abbrev pair : String
pair = "module=top\nstyle=empty\ninst=0 a core\nconn=named q n\ninst=0 b core\nconn=star\nmodule=core\nstyle=ansi\nport=out q\nport=none r\nend=\n"

abbrev nested : String
nested = "module=top\nstyle=empty\ninst=0 s mid\nmodule=mid\nstyle=empty\ninst=0 u core\nconn=pos x\nmodule=core\nstyle=ansi\nport=out q\nend=\n"

-- ---- "Marked runs"

-- the worked example's report
worked : text report_of (ascii ("top=top\noverride=\nstart=p.upf\nfile=p.upf\nbytes=154\ncreate_power_domain PD -elements {u1}\ncreate_supply_net VDD\ncreate_supply_net VSS\nset_domain_supply_net PD -primary_power_net VDD -primary_ground_net VSS\n\n" ++ˢ marked))
    ≡ lined ("scope /top (top), 2 supply nets: VDD, VSS" ∷ "power domain PD: elements [u1], power VDD, ground VSS, 2 corruptible signals" ∷ [])
unfolding text
worked = refl

-- an empty file: no nets
nothing : text report_of (job "" [] marked) ≡ lined ("scope /top (top), 0 supply nets: " ∷ [])
unfolding text
nothing = refl

-- ---- one rule each

-- the two blocks of a domain, with a force line for each path
blocks : text glue_of (job "" ("create_power_domain D -elements {u1}" ∷ "set_domain_supply_net D -primary_power_net P -primary_ground_net G" ∷ []) marked) ≡ lined (
    "  // ---- IEEE 1801 power intent (generated by xezim from UPF) ----" ∷
    "  wire upf_pd__D = upf__P & upf__G;" ∷
    "  always @(upf_pd__D) begin" ∷
    "    if (upf_pd__D === 1'b1) begin" ∷
    "      release u1.q;" ∷
    "      release u1.w;" ∷
    "      $display(\"[UPF] Time: %0t, Power domain 'D' is powered up\", $time);" ∷
    "    end else begin" ∷
    "      if ($time != 0) begin" ∷
    "      end" ∷
    "      force u1.q = 'x;" ∷
    "      force u1.w = 'x;" ∷
    "      if ($time != 0) $display(\"[UPF] Time: %0t, Power domain 'D' is powered down\", $time);" ∷
    "    end" ∷
    "  end" ∷
    "  initial begin" ∷
    "    if (upf_pd__D !== 1'b1) begin" ∷
    "      force u1.q = 'x;" ∷
    "      force u1.w = 'x;" ∷
    "    end" ∷
    "  end" ∷
    [])
unfolding text
blocks = refl

-- its force lines, cut from the text
force_lines_lem : text (λ s. each (λ l. l ++ ascii "\n") (force_lines (glue_of s))) (job "" ("create_power_domain D -elements {u1}" ∷ "set_domain_supply_net D -primary_power_net P -primary_ground_net G" ∷ []) marked) ≡ lined (
    "      force u1.q = 'x;" ∷
    "      force u1.w = 'x;" ∷
    "      force u1.q = 'x;" ∷
    "      force u1.w = 'x;" ∷
    [])
unfolding text
force_lines_lem = refl

-- why demand 3d has its condition on names: one with an LF imitates a force line
imitated : text (λ s. each (λ l. l ++ ascii "\n") (force_lines (glue_of s))) (job "" ("create_power_domain {D" ∷ "      force z} -elements {u1}" ∷ "set_domain_supply_net {D" ∷ "      force z} -primary_power_net P -primary_ground_net G" ∷ []) marked) ≡ lined (
    "      force z' is powered up\", $time);" ∷
    "      force u1.q = 'x;" ∷
    "      force u1.w = 'x;" ∷
    "      force z' is powered down\", $time);" ∷
    "      force u1.q = 'x;" ∷
    "      force u1.w = 'x;" ∷
    [])
unfolding text
imitated = refl

-- "with `u1` retained: count 0"; the entries of the domain's own retentions are named
retained : text report_of (job "" ("create_power_domain D -elements {u1}" ∷ "set_domain_supply_net D -primary_power_net P -primary_ground_net G" ∷ "set_retention r -domain D -elements {u1}" ∷ "set_retention r -domain E -elements {u1/x}" ∷ []) marked) ≡ lined (
    "scope /top (top), 0 supply nets: " ∷
    "power domain D: elements [u1], power P, ground G, 0 corruptible signals, retention exempt: u1" ∷
    [])
unfolding text
retained = refl

-- created nets, nets of ports by their last connection, nets of switches, each one time
supplies : text report_of (job "" ("create_supply_port A" ∷ "create_supply_net N" ∷ "connect_supply_net N -ports {A}" ∷ "connect_supply_net M -ports {A}" ∷ "create_supply_port B" ∷ "create_power_switch w -input_supply_port {i N} -output_supply_port {o O}" ∷ []) marked) ≡ lined (
    "scope /top (top), 4 supply nets: N, M, B, O" ∷
    "power switch w: N -> O controlled by " ∷
    [])
unfolding text
supplies = refl

-- names are written as they are, escaped in the package's strings and mangled in identifiers
odd_names : text package_of (job "" ("create_supply_net {a\"b\\c" ∷ "d}" ∷ []) marked) ≡ lined (
    "package UPF;" ∷
    "  function automatic int upf_apply(string path, bit on, real v);" ∷
    "    case (path)" ∷
    "      \"/top/a\\\"b\\\\c" ∷
    "d\", \"top.a\\\"b\\\\c" ∷
    "d\", \"a\\\"b\\\\c" ∷
    "d\": begin" ∷
    "        top.upf__a_b_c_d_v = on ? v : 0.0;" ∷
    "        top.upf__a_b_c_d = on ? 1'b1 : 1'b0;" ∷
    "      end" ∷
    "      default: begin $display(\"[UPF] Time: %0t, unknown supply '%s'\", $time, path); return 0; end" ∷
    "    endcase" ∷
    "    return 1;" ∷
    "  endfunction" ∷
    "  function automatic int supply_on(string path, real value = 1.0);" ∷
    "    $display(\"[UPF] Time: %0t, Supply ON applied on '%s', Voltage = %0f\", $time, path, value);" ∷
    "    return upf_apply(path, 1'b1, value);" ∷
    "  endfunction" ∷
    "  function automatic int supply_partial_on(string path, real value = 1.0);" ∷
    "    $display(\"[UPF] Time: %0t, Supply PARTIAL_ON applied on '%s', Voltage = %0f\", $time, path, value);" ∷
    "    return upf_apply(path, 1'b1, value);" ∷
    "  endfunction" ∷
    "  function automatic int supply_off(string path);" ∷
    "    $display(\"[UPF] Time: %0t, Supply OFF applied on '%s'\", $time, path);" ∷
    "    return upf_apply(path, 1'b0, 0.0);" ∷
    "  endfunction" ∷
    "  function automatic int get_supply_on_state(string path);" ∷
    "    case (path)" ∷
    "      \"/top/a\\\"b\\\\c" ∷
    "d\", \"top.a\\\"b\\\\c" ∷
    "d\", \"a\\\"b\\\\c" ∷
    "d\": return (top.upf__a_b_c_d === 1'b1) ? 1 : 0;" ∷
    "      default: return 0;" ∷
    "    endcase" ∷
    "  endfunction" ∷
    "  function automatic real get_supply_voltage(string path);" ∷
    "    case (path)" ∷
    "      \"/top/a\\\"b\\\\c" ∷
    "d\", \"top.a\\\"b\\\\c" ∷
    "d\", \"a\\\"b\\\\c" ∷
    "d\": return top.upf__a_b_c_d_v;" ∷
    "      default: return 0.0;" ∷
    "    endcase" ∷
    "  endfunction" ∷
    "endpackage" ∷
    [])
unfolding text
odd_names = refl

-- a switch: conditions joined, unknown words as x, numbers as they are; of two signals for one port the last counts
switch : text glue_of (job "" ("create_power_switch w -input_supply_port {i N} -output_supply_port {o O} -control_port {c e c u1/e} -on_state {on i {!c && k}} -on_state {s j {c == 1}}" ∷ []) marked) ≡ lined (
    "  // ---- IEEE 1801 power intent (generated by xezim from UPF) ----" ∷
    "  logic upf__N = 1'b0;" ∷
    "  real upf__N_v = 0.0;" ∷
    "  always @(upf__N) begin" ∷
    "    if (upf__N === 1'b1) $display(\"[UPF] Time: %0t, Supply net '/top/N' toggled to '{FULL_ON %0.2f V}'\", $time, upf__N_v);" ∷
    "    else if (upf__N === 1'b0) $display(\"[UPF] Time: %0t, Supply net '/top/N' toggled to '{OFF 0 V}'\", $time);" ∷
    "    else $display(\"[UPF] Time: %0t, Supply net '/top/N' toggled to '{UNDETERMINED}'\", $time);" ∷
    "  end" ∷
    "  logic upf__O = 1'b0;" ∷
    "  real upf__O_v = 0.0;" ∷
    "  always @(upf__O) begin" ∷
    "    if (upf__O === 1'b1) $display(\"[UPF] Time: %0t, Supply net '/top/O' toggled to '{FULL_ON %0.2f V}'\", $time, upf__O_v);" ∷
    "    else if (upf__O === 1'b0) $display(\"[UPF] Time: %0t, Supply net '/top/O' toggled to '{OFF 0 V}'\", $time);" ∷
    "    else $display(\"[UPF] Time: %0t, Supply net '/top/O' toggled to '{UNDETERMINED}'\", $time);" ∷
    "  end" ∷
    "  assign upf__O = ((!u1.e && 1'bx) || (u1.e == 1)) ? upf__N : (((!u1.e && 1'bx) || (u1.e == 1)) === 1'b0 ? 1'b0 : 1'bx);" ∷
    "  always @* upf__O_v = ((!u1.e && 1'bx) || (u1.e == 1)) ? upf__N_v : 0.0;" ∷
    "  logic [1:0] upf_swst__w = 2'd3;" ∷
    "  always @(e) begin" ∷
    "    if (((!u1.e && 1'bx) || (u1.e == 1)) === 1'b1) begin if (upf_swst__w != 2'd1) $display(\"[UPF] Time: %0t, Power switch 'w': control 'c' = %b, state FULL_ON\", $time, e); upf_swst__w = 2'd1; end" ∷
    "    else if (((!u1.e && 1'bx) || (u1.e == 1)) === 1'b0) begin if (upf_swst__w != 2'd0) $display(\"[UPF] Time: %0t, Power switch 'w': control 'c' = %b, state OFF\", $time, e); upf_swst__w = 2'd0; end" ∷
    "    else begin if (upf_swst__w != 2'd2) $display(\"[UPF] Time: %0t, Power switch 'w': control 'c' = %b, state UNDETERMINED\", $time, e); upf_swst__w = 2'd2; end" ∷
    "  end" ∷
    "  always @(u1.e) begin" ∷
    "    if (((!u1.e && 1'bx) || (u1.e == 1)) === 1'b1) begin if (upf_swst__w != 2'd1) $display(\"[UPF] Time: %0t, Power switch 'w': control 'c' = %b, state FULL_ON\", $time, u1.e); upf_swst__w = 2'd1; end" ∷
    "    else if (((!u1.e && 1'bx) || (u1.e == 1)) === 1'b0) begin if (upf_swst__w != 2'd0) $display(\"[UPF] Time: %0t, Power switch 'w': control 'c' = %b, state OFF\", $time, u1.e); upf_swst__w = 2'd0; end" ∷
    "    else begin if (upf_swst__w != 2'd2) $display(\"[UPF] Time: %0t, Power switch 'w': control 'c' = %b, state UNDETERMINED\", $time, u1.e); upf_swst__w = 2'd2; end" ∷
    "  end" ∷
    [])
unfolding text
switch = refl

-- its warnings, in order
switch_warnings_lem : text report_of (job "" ("frob" ∷ "create_power_switch w -input_supply_port {i N} -output_supply_port {o O} -control_port {c e} -on_state {on i {!c && k}} -on_state {s j {c == 1}}" ∷ []) marked) ≡ lined (
    "scope /top (top), 2 supply nets: N, O" ∷
    "power switch w: N -> O controlled by c=e" ∷
    "warning: unsupported UPF command 'frob' ignored" ∷
    "warning: power switch state uses unknown control port 'k'" ∷
    "warning: power switch 'w': on_state uses input port 'j' (expected 'i')" ∷
    [])
unfolding text
switch_warnings_lem = refl

-- the strategy with elements goes first and keeps its port; the checks are sorted and none is doubled
first_cover : text glue_of (job "" ("create_power_domain D -elements {a b}" ∷ "set_domain_supply_net D -primary_power_net P -primary_ground_net G" ∷ "set_isolation z -domain D -isolation_signal e" ∷ "set_isolation y -domain D -elements {a/q} -clamp_value 1 -isolation_signal e -isolation_sense LOW" ∷ []) pair) ≡ lined (
    "  // ---- IEEE 1801 power intent (generated by xezim from UPF) ----" ∷
    "  always @(e) begin" ∷
    "    if (e === 1'b0) begin" ∷
    "      force n = '1;" ∷
    "      $display(\"[UPF] Time: %0t, Isolation enabled (strategy y) on port '/top/a/q', clamp 1\", $time);" ∷
    "    end else begin" ∷
    "      release n;" ∷
    "      $display(\"[UPF] Time: %0t, Isolation disabled (strategy y) on port '/top/a/q'\", $time);" ∷
    "    end" ∷
    "  end" ∷
    "  always @(e) begin" ∷
    "    if (e === 1'b1) begin" ∷
    "      force q = '0;" ∷
    "      $display(\"[UPF] Time: %0t, Isolation enabled (strategy z) on port '/top/b/q', clamp 0\", $time);" ∷
    "      force r = '0;" ∷
    "      $display(\"[UPF] Time: %0t, Isolation enabled (strategy z) on port '/top/b/r', clamp 0\", $time);" ∷
    "    end else begin" ∷
    "      release q;" ∷
    "      $display(\"[UPF] Time: %0t, Isolation disabled (strategy z) on port '/top/b/q'\", $time);" ∷
    "      release r;" ∷
    "      $display(\"[UPF] Time: %0t, Isolation disabled (strategy z) on port '/top/b/r'\", $time);" ∷
    "    end" ∷
    "  end" ∷
    "  wire upf_pd__D = upf__P & upf__G;" ∷
    "  always @(upf_pd__D) begin" ∷
    "    if (upf_pd__D === 1'b1) begin" ∷
    "      release a.q;" ∷
    "      release a.r;" ∷
    "      release b.q;" ∷
    "      release b.r;" ∷
    "      $display(\"[UPF] Time: %0t, Power domain 'D' is powered up\", $time);" ∷
    "    end else begin" ∷
    "      if ($time != 0) begin" ∷
    "      if (e !== 1'b0) $display(\"[UPF] Warning: Time: %0t, Isolation control 'e' (%b) is not enabled when power domain 'D' is switched OFF (strategy y)\", $time, e);" ∷
    "      if (e !== 1'b1) $display(\"[UPF] Warning: Time: %0t, Isolation control 'e' (%b) is not enabled when power domain 'D' is switched OFF (strategy z)\", $time, e);" ∷
    "      end" ∷
    "      force a.q = 'x;" ∷
    "      force a.r = 'x;" ∷
    "      force b.q = 'x;" ∷
    "      force b.r = 'x;" ∷
    "      if ($time != 0) $display(\"[UPF] Time: %0t, Power domain 'D' is powered down\", $time);" ∷
    "    end" ∷
    "  end" ∷
    "  initial begin" ∷
    "    if (upf_pd__D !== 1'b1) begin" ∷
    "      force a.q = 'x;" ∷
    "      force a.r = 'x;" ∷
    "      force b.q = 'x;" ∷
    "      force b.r = 'x;" ∷
    "    end" ∷
    "  end" ∷
    [])
unfolding text
first_cover = refl

-- their report lines stand in that order, and a port without a plain net is remarked
isolation_lines : text report_of (job "" ("create_power_domain D -elements {a b}" ∷ "set_domain_supply_net D -primary_power_net P -primary_ground_net G" ∷ "set_isolation z -domain D -isolation_signal e" ∷ "set_isolation y -domain D -elements {a/q} -clamp_value Z -isolation_signal e -isolation_sense LOW" ∷ []) pair) ≡ lined (
    "scope /top (top), 0 supply nets: " ∷
    "isolation y on D: clamp Z control e sense LOW" ∷
    "isolation z on D: clamp 0 control e sense high" ∷
    "power domain D: elements [a, b], power P, ground G, 4 corruptible signals" ∷
    "warning: isolation strategy 'z': port 'a/r' actual is not a plain net; not simulated" ∷
    [])
unfolding text
isolation_lines = refl

-- strategies that are not simulated: the first reason is given
isolation_warnings : text report_of (job "" ("create_power_domain D" ∷ "set_isolation a -domain E -clamp_value X" ∷ "set_isolation b -domain E -clamp_value X -isolation_signal e" ∷ "set_isolation c -domain E -isolation_signal e" ∷ "set_isolation d -domain D -applies_to inputs -isolation_signal e" ∷ []) pair) ≡ lined (
    "scope /top (top), 0 supply nets: " ∷
    "power domain D: no primary supplies (always on)" ∷
    "warning: isolation strategy 'a' has no -isolation_signal; not simulated" ∷
    "warning: isolation strategy 'b': clamp value 'x' not simulated" ∷
    "warning: isolation strategy 'c': unknown domain 'E'" ∷
    "warning: isolation strategy 'd': -applies_to inputs not simulated (outputs only)" ∷
    [])
unfolding text
isolation_warnings = refl

-- an override moves all names below the scope
under_scope : text report_of (job "/top/s" ("set_design_top nowhere" ∷ "create_power_domain D -elements {u nope}" ∷ "set_domain_supply_net D -primary_power_net P -primary_ground_net G" ∷ "set_retention r -domain D -elements {k/l}" ∷ []) nested) ≡ lined (
    "scope /top/s (mid), 0 supply nets: " ∷
    "power domain D: elements [u, nope], power P, ground G, 1 corruptible signals, retention exempt: s.k.l" ∷
    "warning: power domain 'D': element 'nope' not found" ∷
    [])
unfolding text
under_scope = refl

-- the parent's net is named from the top on
parent_net : text glue_of (job "" ("set_design_top mid" ∷ "create_power_domain D -elements {u}" ∷ "set_isolation z -domain D -isolation_signal e/f" ∷ []) nested) ≡ lined (
    "  // ---- IEEE 1801 power intent (generated by xezim from UPF) ----" ∷
    "  always @(s.e.f) begin" ∷
    "    if (s.e.f === 1'b1) begin" ∷
    "      force s.x = '0;" ∷
    "      $display(\"[UPF] Time: %0t, Isolation enabled (strategy z) on port '/top/s/u/q', clamp 0\", $time);" ∷
    "    end else begin" ∷
    "      release s.x;" ∷
    "      $display(\"[UPF] Time: %0t, Isolation disabled (strategy z) on port '/top/s/u/q'\", $time);" ∷
    "    end" ∷
    "  end" ∷
    [])
unfolding text
parent_net = refl

-- shifters and tables
tables : text report_of (job "" ("set_level_shifter l -domain D" ∷ "create_pst t -supplies {P G}" ∷ "add_pst_state on -pst t -state {A B}" ∷ "add_pst_state off -pst t -state *" ∷ "add_pst_state x -pst u" ∷ []) marked) ≡ lined (
    "scope /top (top), 0 supply nets: " ∷
    "level shifter l on D: transparent" ∷
    "PST t over [P, G]: on={A B} off={*}" ∷
    "warning: add_pst_state: unknown PST 'u'" ∷
    [])
unfolding text
tables = refl

-- refusals of the scope: no instance of the type, no module of the scope
no_type : text report_of (job "" ("set_design_top nowhere" ∷ []) marked) ≡ refusal 11
unfolding text
no_type = refl

-- "Listed type, unlisted module: 12, not 11."
no_module : text report_of (job "" ("set_design_top ghost" ∷ []) "module=top\nstyle=empty\ninst=0 g ghost\nend=\n") ≡ refusal 12
unfolding text
no_module = refl

-- an override that leads nowhere
no_path : text report_of (job "s.k" [] nested) ≡ refusal 12
unfolding text
no_path = refl

-- ---- "does `find_by_type` make at most 4,096 calls? No: 13."

-- a module with two instances of another
abbrev fork : String → String → String
fork m n = "module=" ++ˢ m ++ˢ "\nstyle=empty\ninst=0 x " ++ˢ n ++ˢ "\ninst=0 y " ++ˢ n ++ˢ "\n"

-- below the top 4,094 modules are met, and those of `more`
abbrev forks : String → String
forks more =
    "module=top\nstyle=empty\ninst=0 x b\ninst=0 y b\n" ++ˢ more ++ˢ fork "b" "c" ++ˢ fork "c" "d" ++ˢ fork "d" "e" ++ˢ fork "e" "f" ++ˢ fork "f" "g"
    ++ˢ fork "g" "h" ++ˢ fork "h" "i" ++ˢ fork "i" "j" ++ˢ fork "j" "k" ++ˢ fork "k" "l" ++ˢ "module=l\nstyle=empty\nend=\n"

-- 4,096 calls find nothing: 11; one more: 13
all_calls : text report_of (job "" ("set_design_top q" ∷ []) (forks "inst=0 z l\n")) ≡ refusal 11
unfolding text
all_calls = refl

too_many_calls : text report_of (job "" ("set_design_top q" ∷ []) (forks "inst=0 z l\ninst=0 w l\n")) ≡ refusal 13
unfolding text
too_many_calls = refl

-- ---- "Within the generation limits? No: 13."

abbrev verdict : Setting → Bytes
verdict s = cond (fits s) [] (refusal 13)

-- 4,096 modules entered by the walk of one domain, and one more
abbrev walked : List String
walked = "create_power_domain D -elements {.}" ∷ "set_domain_supply_net D -primary_power_net P -primary_ground_net G" ∷ []

all_entered : text verdict (job "" walked (forks "inst=0 z l\n")) ≡ []
unfolding text
all_entered = refl

too_many_entered : text verdict (job "" walked (forks "inst=0 z l\ninst=0 w l\n")) ≡ refusal 13
unfolding text
too_many_entered = refl
