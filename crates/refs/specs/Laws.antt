-- Laws: the texts that are made, and those that are whole names. Assumes nothing.
use Rattle.std.specs.Prelude.{ℕ, ◌≡◌, refl, Bool, true, false, not, ◌&&◌, [], ◌∷◌, take, drop}
use Rattle.std.proofs.Common.{append-nil}
use Rattle.std.proofs.Math.Dec.{eqb}
use borrow.Author.Tests.{eqb-true, not-true}
use Rattle.text.specs.Ascii.{Bytes}
use Rattle.text.specs.Sames.{both}
use Rattle.spans.specs.Span.{bytes}
use Rattle.names.specs.Name.{stands, name_of}
use Rattle.names.specs.Laws.{stands_word, dotted_step, dotted_none}
use Rattle.names.specs.declared.name.Name.{Name}
use Rattle.refs.specs.Text.{text_of, no_name, whole_ref, front_ref, job_ref, dot_of, as_dots}
use Rattle.refs.specs.Heads.{is_bare, is_name}
use Rattle.refs.specs.declared.Ref.{Ref}

pub none_is : (mem : Bytes) → name_of mem no_name ≡ []
unfolding name_of bytes
none_is mem = refl

module _ (job mem : Bytes) where
  pub whole_is : (n : Name) → text_of job mem (whole_ref n) ≡ name_of mem n
  unfolding text_of
  whole_is n = rw (none_is mem) (append-nil (name_of mem n))

  pub front_is : (n : Name) (k : ℕ) → text_of job mem (front_ref n k) ≡ take k (name_of mem n)
  unfolding text_of
  front_is n k = rw (none_is mem) (append-nil (take k (name_of mem n)))

  pub job_is : (at len : ℕ) → text_of job mem (job_ref at len) ≡ take len (drop at job)
  unfolding text_of
  job_is at len = rw (none_is mem)

  pub name_is : (r : Ref) → is_name r ≡ true → text_of job mem r ≡ name_of mem r.name
  unfolding text_of name_of bytes
  name_is r h =
      let x = both (is_bare r) _ h in
      let y = both (not r.sep) (eqb r.len 0) x.1 in
      let a = both (not r.cut) _ x.0 in
      let b = both (eqb r.last.scope.len 0 && eqb r.last.word.len 0) _ a.1 in
      let c = both (eqb r.last.scope.len 0) _ b.0 in
      let d = both (not r.last.sep) (stands r.last.form) b.1 in
      let e : r.last.scope.len ≡ 0 = eqb-true _ _ c.0 in
      let f : r.last.word.len ≡ 0 = eqb-true _ _ c.1 in
      let z : r.len ≡ 0 = eqb-true _ _ y.1 in
      rw (not-true r.cut a.0, not-true r.sep y.0, e, f, not-true r.last.sep d.0, stands_word r.last.form d.1, z, append-nil)

pub dots_step : (dots : Bool) (b : ℕ) (t : Bytes) → as_dots dots (b ∷ t) ≡ dot_of dots b ∷ as_dots dots t
dots_step true b t = dotted_step b t
dots_step false b t = refl

pub dots_none : (dots : Bool) → as_dots dots [] ≡ []
dots_none true = dotted_none
dots_none false = refl
