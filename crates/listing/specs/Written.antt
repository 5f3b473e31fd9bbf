-- Laws: a piece written into a text that has room for it. Assumes nothing.
use Rattle.std.specs.Prelude.{ℕ, ◌+◌, ◌-◌, ◌≤◌, ◌≡◌, refl, ◌++◌, length, take, drop}
use Rattle.std.proofs.Common.{sym, ap, ◌∙◌, append_assoc, arith, length-append, length-take-le, take_at, drop_at}
use Rattle.std.proofs.lemmas.List.Edits.{sets-eq}
use Rattle.text.specs.Ascii.{Bytes}
use Rattle.out.specs.Emit.{Out, ◌▸◌, emit}
use Rattle.out.specs.Fits.{emit_sets}
use Rattle.jobindex.specs.Index.{section}

module _ (text text' p : Bytes) (at r : ℕ) (h : at + length p ≤ length text) (e : text' ▸ r ≡ emit (text ▸ at) p) where
  written : text' ≡ take at text ++ (p ++ drop (at + length p) text)
  written = ap (λ (o : Out). o.bytes) (e ∙ emit_sets p text at h) ∙ sets-eq p text at h ∙ append_assoc (take at text) p (drop (at + length p) text)

  front_long : length (take at text) ≡ at
  front_long = length-take-le at text (omega arith)

  pub front_kept : take at text' ≡ take at text
  front_kept = ap (take at) written ∙ take_at (take at text) (p ++ drop (at + length p) text) at front_long

  pub piece_there : section text' at (at + length p) ≡ p
  piece_there =
      let z : at + length p - at ≡ length p = omega arith in
      let d : drop at text' ≡ p ++ drop (at + length p) text = ap (drop at) written ∙ drop_at (take at text) (p ++ drop (at + length p) text) at front_long in
      rw (z, d) (take_at p (drop (at + length p) text) (length p) refl)

  pub place_is_lem : r ≡ at + length p
  place_is_lem = ap (λ (o : Out). o.at) (e ∙ emit_sets p text at h)

  pub front_on : take (at + length p) text' ≡ take at text ++ p
  front_on =
      let l : length (take at text ++ p) ≡ at + length p = length-append (take at text) p ∙ ap (λ n. n + length p) front_long in
      ap (take (at + length p)) (written ∙ sym (append_assoc (take at text) p (drop (at + length p) text))) ∙ take_at (take at text ++ p) (drop (at + length p) text) (at + length p) l
