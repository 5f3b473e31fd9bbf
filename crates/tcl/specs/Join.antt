-- "`\` LF and `\` CR LF become a space first." Assumes nothing.
use Rattle.std.specs.Prelude.{ℕ, cond, ◌&&◌, [], ◌∷◌, eqb, get_or}
use Rattle.text.specs.Ascii.{Bytes, byte}
use Rattle.tcl.specs.Rewrite.{rewrite}

-- how many bytes a continuation has besides its backslash, by the three bytes that stand there: 0 where it is none
unfoldable pub joint_by : ℕ → ℕ → ℕ → ℕ
joint_by a b c =
    cond (eqb a (byte "\\") && eqb b (byte "\n")) 1
    (cond (eqb a (byte "\\") && (eqb b (byte "\r") && eqb c (byte "\n"))) 2 0)

-- behind the end stands 0, which is no LF
abbrev pub joint : Bytes → ℕ
joint s = joint_by (get_or s 0 0) (get_or s 1 0) (get_or s 2 0)

-- what is written for a piece that begins with b and has n bytes more
unfoldable pub joined_by : ℕ → ℕ → ℕ
joined_by n b = cond (eqb n 0) b (byte " ")

abbrev pub joined : Bytes → Bytes
joined s = joined_by (joint s) (get_or s 0 0) ∷ []

abbrev pub join : Bytes → Bytes
join s = rewrite joint joined 0 s
