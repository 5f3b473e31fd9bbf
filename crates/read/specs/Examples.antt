-- Files read by computation: each theorem is antt's run of `reading`. Assumes nothing.
use Prim.Native.String.{String}
use Rattle.std.specs.Prelude.{◌≡◌, refl, List, [], ◌∷◌}
use Rattle.text.specs.Ascii.{Bytes, ascii}
use Rattle.text.specs.Compare.{same}
use Rattle.text.specs.Scan.{before, all, any, split_at}
use Rattle.out.specs.Fill.{pick, arg, adds, turns, filled, fill}
use Rattle.tcl.specs.Rewrite.{rewrite}
use Rattle.tcl.specs.Join.{joint_by, joined_by}
use Rattle.tcl.specs.Words.{span, depth, quote_state, kind_of, size_of, words_of}
use Rattle.tcl.specs.Commands.{reading as splitting}
use Rattle.tcl.specs.Substitution.{lookup, known, opens_by, closes_by, piece_more, piece_name, escape, costs}
use Rattle.tcl.specs.Lists.{together}
use Rattle.tcl.specs.Arguments.{is_option, role_of, positionals_from, option_from, has_flag_from, states_from}
use Rattle.joblines.specs.Job.{File, Job}
use Rattle.model.specs.Records.{Model}
use Rattle.model.specs.Scope.{scoped, up, moved, entered}
use Rattle.model.specs.Names.{command_named}
use Rattle.model.specs.Commands.{on_first, set_command, puts_command, design_top_command, scope_command, domain_command, net_command, port_command, connect_command, supply_command, switch_command, isolation_command, control_command, retention_command, shifter_command, port_state_command, table_command, table_state_command, unsupported}
use Rattle.model.specs.Within.{total}
use Rattle.read.specs.Reading.{Reading, done, refused, read_commands, file_named, read_file, reading}

-- a job of these files, the first being the start file
abbrev job_of : List (String × String) → Job
job_of fs = record { top = ascii "t"; override = []; start = start_of fs; files = files_of fs; modules = [] }
  where
    start_of : List (String × String) → Bytes
    start_of [] = []
    start_of (f ∷ fs) = ascii f.0

    files_of : List (String × String) → List File
    files_of [] = []
    files_of (f ∷ fs) = record { path = ascii f.0; body = ascii f.1 } ∷ files_of fs

-- the run of such a job: this one name opens all the definitions that it needs
unfoldable pub run : List (String × String) → Reading
unfolding same before all any split_at pick arg adds turns filled fill rewrite joint_by joined_by span depth quote_state kind_of size_of words_of splitting lookup known opens_by closes_by piece_more piece_name escape costs together is_option role_of positionals_from option_from has_flag_from states_from scoped up moved entered command_named on_first set_command puts_command design_top_command scope_command domain_command net_command port_command connect_command supply_command switch_command isolation_command control_command retention_command shifter_command port_state_command table_command table_state_command unsupported total read_commands file_named read_file
run fs = reading (job_of fs)

-- what is kept of a run
abbrev records_of : {A : Type 0} → (Model → A) → A → Reading → A
records_of f z (Reading.done n m) = f m
records_of f z (Reading.refused x k) = z

-- a file that only loads itself: the seventeenth load is too deep
loads_itself : run (("p", "load_upf p") ∷ []) ≡ refused 8 17
unfolding run
loads_itself = refl

-- "A `load_upf` has its number at its turn": p loads q, which loads what is not listed
not_listed : run (("p", "load_upf q") ∷ ("q", "load_upf nofile") ∷ []) ≡ refused 9 2
unfolding run
not_listed = refl

-- a path is joined to the loader's directory as text
in_directory : records_of (λ m. m.log) [] (run (("d/p", "load_upf q; puts b") ∷ ("d/q", "puts a") ∷ [])) ≡ ascii "[UPF] a\n[UPF] b\n"
unfolding run
in_directory = refl

-- a variable counts in files opened later, not in its own file or its loader
opened_later : records_of (λ m. m.log) [] (run (("p", "set V 1; puts $V; load_upf q; puts $V") ∷ ("q", "puts $V; set V 2") ∷ [])) ≡ ascii "[UPF] $V\n[UPF] 1\n[UPF] $V\n"
unfolding run
opened_later = refl

-- the loader's scope is back behind a load, and the design top that it had
scope_back : records_of (λ m. m.nets) [] (run (("p", "load_upf q -scope s; create_supply_net b") ∷ ("q", "set_scope x; create_supply_net a") ∷ []))
    ≡ ascii "s/x/a" ∷ ascii "b" ∷ []
unfolding run
scope_back = refl

-- unsupported commands warn, queries do not
remarked : records_of (λ m. m.warnings) [] (run (("p", "query_x; frob; upf_version 2.1") ∷ []))
    ≡ ascii "unsupported UPF command 'frob' ignored" ∷ ascii "'upf_version' parsed but not simulated" ∷ []
unfolding run
remarked = refl
