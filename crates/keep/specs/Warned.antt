-- Laws: a warning's line, by the template of its text; a warning that is not asked for. Assumes nothing.
use Rattle.std.specs.Prelude.{ℕ, ◌≡◌, refl, [], ◌∷◌, ◌++◌, Bool, not, true}
use Rattle.std.proofs.Common.{sym, ap, ◌∙◌, append_assoc}
use Rattle.text.specs.Ascii.{Bytes, ascii}
use Rattle.out.specs.Fill.{adds, turns, filled, fill, arg, pick}
use Rattle.out.specs.Emit.{emit}
use Rattle.texts.specs.Texts.{warning_line}
use Rattle.std.proofs.lemmas.Bool.{not-true}
use Rattle.keep.specs.Covered.{warned_cover, Remarked}
use Rattle.keep.specs.declared.Cover.{Cover}

-- the state behind a template
abbrev pub ends : ℕ → Bytes → ℕ
ends s [] = s
ends s (b ∷ t) = ends (turns s b) t

filled_append : (a : ℕ → Bytes) (s : ℕ) (t u : Bytes) → filled a s (t ++ u) ≡ filled a s t ++ filled a (ends s t) u
unfolding filled
filled_append a s [] u = refl
filled_append a s (b ∷ t) u = ap (λ (l : Bytes). adds a s b ++ l) (filled_append a (turns s b) t u) ∙ sym (append_assoc (adds a s b) (filled a (turns s b) t) (filled a (ends (turns s b) t) u))

pub warned_line : (t a b c d e : Bytes) → ends 0 t ≡ 0 → fill (ascii "warning: " ++ (t ++ ascii "\n")) a b c d e ≡ warning_line (fill t a b c d e)
unfolding fill filled adds turns arg pick
warned_line t a b c d e h = ap (λ (l : Bytes). ascii "warning: " ++ l) (filled_append (arg a b c d e) 0 t (ascii "\n") ∙ rw h)

-- a warning that is not asked for
pub not_warned : (warn : Bool) (c : Cover) (out w : Bytes) (r : Cover) → r ≡ warned_cover c c.at → not warn ≡ true → Remarked warn w c out r out
unfolding emit
not_warned warn c out w r e h = record { is = rw e; text = rw (not-true warn h, e) }
