-- The limits of a job: "Files 32; modules 128; per module ports 64, declarations 128, instances 64; connections of one instance 64."
-- Assumes nothing.
use Rattle.std.specs.Prelude.{ℕ}

-- "Is the job at most 65,536 bytes?"
abbrev pub most_bytes : ℕ
most_bytes = 65536

abbrev pub most_files : ℕ
most_files = 32

abbrev pub most_modules : ℕ
most_modules = 128

abbrev pub most_ports : ℕ
most_ports = 64

abbrev pub most_decls : ℕ
most_decls = 128

abbrev pub most_insts : ℕ
most_insts = 64

abbrev pub most_conns : ℕ
most_conns = 64

-- "NAME is 1 to 64 of .."
abbrev pub most_name : ℕ
most_name = 64
