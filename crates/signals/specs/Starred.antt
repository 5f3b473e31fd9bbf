-- The starred cases of "Marked runs", one table: what the definitions give beside what document 01 says, and one proof over the whole of it.
-- Assumes nothing.
use Prim.Native.String.{String, ◌++◌}
use Rattle.std.specs.Prelude.{◌≡◌, refl, map, length, Option, None, Some}
use mathlib.Core.List.{List, [], ◌∷◌, flat_map}
use Rattle.text.specs.Ascii.{Bytes, ascii}
use Rattle.text.specs.Compare.{same, less}
use Rattle.text.specs.Scan.{before, all, any, split_at}
use Rattle.text.specs.Numbers.{value_from, is_decimal}
use Rattle.out.specs.Emit.{◌⊕◌}
use Rattle.out.specs.Bytewise.{flat, mangled_byte, dotted_byte, sv_byte}
use Rattle.out.specs.Fill.{pick, arg, adds, turns, filled, fill}
use Rattle.out.specs.Items.{each, behind, joined}
use Rattle.out.specs.Number.{dec}
use Rattle.tcl.specs.Rewrite.{rewrite}
use Rattle.tcl.specs.Join.{joint_by, joined_by}
use Rattle.tcl.specs.Words.{span, depth, quote_state, kind_of, size_of, words_of}
use Rattle.tcl.specs.Commands.{reading as splitting}
use Rattle.tcl.specs.Substitution.{lookup, known, opens_by, closes_by, piece_more, piece_name, escape, costs}
use Rattle.tcl.specs.Lists.{together}
use Rattle.tcl.specs.Arguments.{is_option, role_of, positionals_from, option_from, has_flag_from, states_from}
use Rattle.fields.specs.Fields.{is_name, is_part, is_path, dims_of, dir_of, kind_of as decl_kind, style_of, is_net}
use Rattle.joblines.specs.Job.{Module, Job}
use Rattle.joblines.specs.Lines.{top_line, override_line, start_line, file_line, file_read, bytes_line, module_line, style_line, port_line, port_of, decl_line, decl_of, inst_line, inst_of, inst_read, conn_line, conn_of, end_line, read_line, module_read}
use Rattle.joblines.specs.Parse.{Parsed, lines, parse}
use Rattle.design.specs.Lists.{first, those, add_new, add_all}
use Rattle.design.specs.Lookup.{module_named, module_at}
use Rattle.design.specs.Search.{among_instances, search_from}
use Rattle.design.specs.Ports.{directed}
use Rattle.design.specs.Connections.{decided}
use Rattle.walk.specs.Walk.{entered, corruptible, sum_over, modules_entered, element_list, domain_list, element_entered, domain_entered, path_bytes}
use Rattle.model.specs.Records.{Model}
use Rattle.model.specs.Scope.{scoped, up, moved, entered as loaded}
use Rattle.model.specs.Names.{command_named}
use Rattle.model.specs.Commands.{on_first, set_command, puts_command, design_top_command, scope_command, domain_command, net_command, port_command, connect_command, supply_command, switch_command, isolation_command, control_command, retention_command, shifter_command, port_state_command, table_command, table_state_command, unsupported}
use Rattle.model.specs.Within.{total}
use Rattle.read.specs.Reading.{Reading, read_commands, file_named, read_file, reading}
use Rattle.texts.specs.Scope.{Scope, scope_of}
use Rattle.texts.specs.Setting.{Setting}
use Rattle.texts.specs.Supplies.{net_of, supply_nets}
use Rattle.texts.specs.Switches.{signal_of, word_more, piece_text, unknowns}
use Rattle.texts.specs.Isolation.{resolved, covering, strategies, isolation, leaders}
use Rattle.texts.specs.Domains.{sorted_in_lem, sorted, always_block, initial_block}
use Rattle.texts.specs.Texts.{warnings_of, glue_of, package_of, report_of, fits}
use Rattle.out.specs.Number.{decimal}
use Rattle.tcl.specs.Substitution.{values}
use Rattle.tcl.specs.Join.{join}
use Rattle.tcl.specs.Commands.{commands}
use Rattle.tcl.specs.Arguments.{positionals, option_of, name_of, State, states}
use Rattle.model.specs.Records.{Domain}
use Rattle.texts.specs.Domains.{lost_paths}

-- ---- what is asked of a job: a list of byte strings

abbrev in_scope : (Setting → List Bytes) → Bytes → List Module → Model → Scope → List Bytes
in_scope f top d m (Scope.at path base) = f (record { top = top; scope = path; base = base; design = d; records = m })
in_scope f top d m (Scope.no_scope n) = []

abbrev after_reading : (Setting → List Bytes) → Job → Option Module → Reading → List Bytes
after_reading f j None r = []
after_reading f j (Some top) (Reading.done n m) = in_scope f j.top j.modules m (scope_of j top m.design_top)
after_reading f j (Some top) (Reading.refused x k) = []

abbrev asked : (Setting → List Bytes) → Parsed → List Bytes
asked f (Parsed.refused x n) = []
asked f (Parsed.accepted j) = after_reading f j (module_named j.modules j.top) (reading j)

-- the paths that the domains lose, their number, and the number of the supply nets
abbrev lost : Setting → List Bytes
lost s = flat_map (lost_paths s) s.records.domains

abbrev counted : Setting → List Bytes
counted s = map (λ (d : Domain). decimal (length (lost_paths s d))) s.records.domains

abbrev net_count : Setting → List Bytes
net_count s = decimal (length (supply_nets s.records)) ∷ []

-- ---- what is asked of a text of UPF: the words of its commands, run together

abbrev words : String → List Bytes
words t = flat_map (values []) (commands (join (ascii t)))

abbrev or_none : Option Bytes → List Bytes
or_none None = []
or_none (Some v) = v ∷ []

abbrev state_values : List Bytes → List Bytes
state_values ws = map (λ (s : State). s.value) (states (ascii "-on_state") (ascii "-off_state") ws)

-- ---- the jobs

abbrev job_of : String → String → String
job_of size upf =
    "top=top\noverride=\nstart=p.upf\nfile=p.upf\nbytes=" ++ size ++ "\n" ++ upf ++ "\nmodule=top\nstyle=empty\ninst=0 u1 core\nmodule=core\nstyle=ansi\nport=in clk\nport=out q\ndecl=net 0 w\ndecl=odd 0 r\nend=\n"

abbrev intent : String
intent = "create_power_domain PD -elements {u1}\ncreate_supply_net VDD\ncreate_supply_net VSS\nset_domain_supply_net PD -primary_power_net VDD -primary_ground_net VSS\n"

-- ---- the table

-- a case: what the definitions give, and what document 01 says
pub record Case : Type 0 where
  pub given : List Bytes
  pub due : List Bytes

infix 30 ◌gives◌
abbrev ◌gives◌ : List Bytes → List Bytes → Case
g gives d = record { given = g; due = d }

unfoldable pub table : List Case
unfolding flat_map same less before all any split_at value_from is_decimal ◌⊕◌ flat mangled_byte dotted_byte sv_byte pick arg adds turns filled fill each behind joined dec rewrite joint_by joined_by span depth quote_state kind_of size_of words_of splitting lookup known opens_by closes_by piece_more piece_name escape costs together is_option role_of positionals_from option_from has_flag_from states_from is_name is_part is_path dims_of dir_of decl_kind style_of is_net top_line override_line start_line file_line file_read bytes_line module_line style_line port_line port_of decl_line decl_of inst_line inst_of inst_read conn_line conn_of end_line read_line module_read lines parse first those add_new add_all module_at among_instances search_from directed decided entered corruptible sum_over modules_entered element_list domain_list element_entered domain_entered path_bytes scoped up moved loaded command_named on_first set_command puts_command design_top_command scope_command domain_command net_command port_command connect_command supply_command switch_command isolation_command control_command retention_command shifter_command port_state_command table_command table_state_command unsupported total read_commands file_named read_file scope_of net_of supply_nets signal_of word_more piece_text unknowns resolved covering strategies isolation leaders sorted_in_lem sorted always_block initial_block warnings_of glue_of package_of report_of fits
table =
    -- the run above lists `u1.q`, `u1.w`
    (asked lost (parse (ascii (job_of "154" intent))) gives (ascii "u1.q" ∷ ascii "u1.w" ∷ []))
    -- with `u1` retained: count 0
    ∷ (asked counted (parse (ascii (job_of "184" (intent ++ "set_retention R -elements {u1}")))) gives (ascii "0" ∷ []))
    -- an empty file: count of nets 0
    ∷ (asked net_count (parse (ascii (job_of "0" ""))) gives (ascii "0" ∷ []))
    -- `{a}b`: words `a`, `b`
    ∷ (words "{a}b" gives (ascii "a" ∷ ascii "b" ∷ []))
    -- `{a` at the end: word `a`
    ∷ (words "{a" gives (ascii "a" ∷ []))
    -- `x -5 -k -6`: positional `x`, `-5`; `k` is `-6`
    ∷ (positionals (words "x -5 -k -6") gives (ascii "x" ∷ ascii "-5" ∷ []))
    ∷ (or_none (option_of (ascii "-k") (words "x -5 -k -6")) gives (ascii "-6" ∷ []))
    -- `$` alone stays `$`
    ∷ (words "$" gives (ascii "$" ∷ []))
    -- `-off_state -on_state`: the second is a value
    ∷ (state_values (words "-off_state -on_state") gives (ascii "-on_state" ∷ []))
    -- `#` after a first word is a word
    ∷ (words "a # b" gives (ascii "a" ∷ ascii "#" ∷ ascii "b" ∷ []))
    -- `-include_scope PD`: `PD` is a value and the name is empty
    ∷ (or_none (option_of (ascii "-include_scope") (words "-include_scope PD")) gives (ascii "PD" ∷ []))
    ∷ ((name_of (words "-include_scope PD") ∷ []) gives ([] ∷ []))
    ∷ []

-- every case of the table gives what is due
pub starred : map (λ (c : Case). c.given) table ≡ map (λ (c : Case). c.due) table
unfolding table
starred = refl
