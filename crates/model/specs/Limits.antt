-- The reading limits: "Reading: commands 1,024, numbered as carried out through all files; words in one, its name included, 128; result bytes of all
-- quoted words and plain words with a `$` 16,384 (lists not counted); `set` commands that set something 64; a scope 512 bytes, all scopes from `set_scope`
-- and `load_upf -scope` together 8,192; a value read as a list 64 entries, all such values 1,024; domains, created nets, supply ports, switches,
-- isolations, retentions, shifters, port states, tables 32 of each; warnings 256."
-- Assumes nothing.
use Rattle.std.specs.Prelude.{ℕ}

abbrev pub most_commands : ℕ
most_commands = 1024

abbrev pub most_words : ℕ
most_words = 128

abbrev pub most_substituted : ℕ
most_substituted = 16384

abbrev pub most_sets : ℕ
most_sets = 64

abbrev pub most_scope : ℕ
most_scope = 512

abbrev pub most_scopes : ℕ
most_scopes = 8192

abbrev pub most_entries : ℕ
most_entries = 64

abbrev pub most_all_entries : ℕ
most_all_entries = 1024

-- of each kind of record
abbrev pub most_records : ℕ
most_records = 32

abbrev pub most_warnings : ℕ
most_warnings = 256

-- "For `load_upf`, is the new depth at most 16?": the start file has depth 0
abbrev pub most_depth : ℕ
most_depth = 16
