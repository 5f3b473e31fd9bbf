-- Jobs, read by computation: the worked example of "Marked runs", and damaged ones. Each theorem is antt's run of `parse`.
use Rattle.std.specs.Prelude.{◌≡◌, refl, false, [], ◌∷◌}
use Prim.Native.String.{String, ◌++◌}
use Rattle.text.specs.Ascii.{ascii}
use Rattle.text.specs.Compare.{same}
use Rattle.text.specs.Scan.{before, all, any, split_at}
use Rattle.text.specs.Numbers.{value_from, is_decimal}
use Rattle.fields.specs.Fields.{is_name, is_part, is_path, dims_of, dir_of, kind_of, style_of, is_net, input, output, net, odd, ansi, empty}
use Rattle.joblines.specs.Lines.{top_line, override_line, start_line, file_line, file_read, bytes_line, module_line, style_line, port_line, port_of, decl_line, decl_of, inst_line, inst_of, inst_read, conn_line, conn_of, end_line, read_line, module_read}
use Rattle.joblines.specs.Parse.{Parsed, accepted, refused, lines, parse}

-- the run of a job: this one name opens all the definitions that it needs
unfoldable pub run : String → Parsed
unfolding same all any before split_at is_name is_part is_path value_from is_decimal dims_of dir_of kind_of style_of is_net top_line override_line start_line file_line file_read bytes_line module_line module_read style_line port_line port_of decl_line decl_of inst_line inst_of inst_read conn_line conn_of end_line read_line lines parse
run s = parse (ascii s)

-- the shortest job
least : run "top=t\noverride=\nstart=p\nfile=p\nbytes=0\n\nmodule=t\nstyle=empty\nend=\n" ≡
    accepted (record {
      top = ascii "t";
      override = [];
      start = ascii "p";
      files = record { path = ascii "p"; body = [] } ∷ [];
      modules = record { name = ascii "t"; style = empty; ports = []; decls = []; insts = [] } ∷ [];
    })
unfolding run
least = refl

-- ---- the worked example
abbrev upf : String
upf = "create_power_domain PD -elements {u1}\ncreate_supply_net VDD\ncreate_supply_net VSS\nset_domain_supply_net PD -primary_power_net VDD -primary_ground_net VSS\n"

abbrev head : String
head = "top=top\noverride=\nstart=p.upf\nfile=p.upf\nbytes=154\n" ++ upf ++ "\n"

abbrev design : String
design = "module=top\nstyle=empty\ninst=0 u1 core\nmodule=core\nstyle=ansi\nport=in clk\nport=out q\ndecl=net 0 w\ndecl=odd 0 r\n"

worked : run (head ++ design ++ "end=\n") ≡
    accepted (record {
      top = ascii "top";
      override = [];
      start = ascii "p.upf";
      files = record { path = ascii "p.upf"; body = ascii upf } ∷ [];
      modules =
          record { name = ascii "top"; style = empty; ports = []; decls = []; insts = record { dims = false; name = ascii "u1"; type = ascii "core"; conns = [] } ∷ [] } ∷
          record {
            name = ascii "core";
            style = ansi;
            ports = record { dir = input; name = ascii "clk" } ∷ record { dir = output; name = ascii "q" } ∷ [];
            decls = record { kind = net; dims = false; name = ascii "w" } ∷ record { kind = odd; dims = false; name = ascii "r" } ∷ [];
            insts = [];
          } ∷ [];
    })
unfolding run
worked = refl

-- ---- damaged
-- the last line is missing: a fault of the line after the last
no_end : run (head ++ design) ≡ refused 4 15
unfolding run
no_end = refl

-- a byte after `end=` is a fault of the next line
past_end : run (head ++ design ++ "end=\n\n") ≡ refused 4 16
unfolding run
past_end = refl

-- a body that lacks its LF is a fault of its `bytes=` line
body_short : run ("top=t\noverride=\nstart=p\nfile=p\nbytes=1\n\nmodule=t\nstyle=empty\nend=\n") ≡ refused 4 5
unfolding run
body_short = refl

-- no leading zero
leading_zero : run ("top=t\noverride=\nstart=p\nfile=p\nbytes=00\n\nmodule=t\nstyle=empty\nend=\n") ≡ refused 4 5
unfolding run
leading_zero = refl

-- a byte of 128 or more comes before any line
not_ascii : run ("top=\u{80}") ≡ refused 3 0
unfolding run
not_ascii = refl

-- a NAME does not begin with a digit
name_digit : run ("top=1t\n") ≡ refused 4 1
unfolding run
name_digit = refl

-- a part of a PATH is not `..`
path_dots : run ("top=t\noverride=\nstart=a/../b\n") ≡ refused 4 3
unfolding run
path_dots = refl

-- a path is new
same_path : run ("top=t\noverride=\nstart=p\nfile=p\nbytes=0\n\nfile=p\n") ≡ refused 6 6
unfolding run
same_path = refl

-- a module is new
same_module : run (head ++ design ++ "module=core\n") ≡ refused 6 15
unfolding run
same_module = refl

-- an instance is new in its module
same_inst : run (head ++ "module=top\nstyle=empty\ninst=0 u1 core\ninst=1 u1 core\n") ≡ refused 6 9
unfolding run
same_inst = refl

-- fields are parted by one space
two_spaces : run (head ++ "module=top\nstyle=empty\ninst=0  u1 core\n") ≡ refused 4 8
unfolding run
two_spaces = refl

-- style `empty` has no port line
port_of_empty : run (head ++ "module=top\nstyle=empty\nport=in a\n") ≡ refused 4 8
unfolding run
port_of_empty = refl

-- a port after a declaration is not due
late_port : run (head ++ "module=top\nstyle=ansi\ndecl=net 0 w\nport=in a\n") ≡ refused 4 9
unfolding run
late_port = refl

-- a connection belongs to an instance
early_conn : run (head ++ "module=top\nstyle=ansi\nconn=star\n") ≡ refused 4 8
unfolding run
early_conn = refl

-- `top` is listed
no_top : run ("top=x\noverride=\nstart=p\nfile=p\nbytes=0\n\nmodule=t\nstyle=empty\nend=\n") ≡ refused 7 0
unfolding run
no_top = refl

-- `start` is listed
no_start : run ("top=t\noverride=\nstart=q\nfile=p\nbytes=0\n\nmodule=t\nstyle=empty\nend=\n") ≡ refused 7 0
unfolding run
no_start = refl
