-- What lines come to, from the tests that the code makes: t is whether the line has the key, v its value.
-- Assumes nothing.
use mathlib.Core.Path.{◌≡◌, refl, ◌∙◌, sym}
use Prim.Native.Nat.{ℕ, ◌<◌, ◌≤◌}
use mathlib.Core.Bool.{Bool, true, false, not}
use Rattle.std.specs.Prelude.{Option, None, Some, Ok, Err, is_none}
use lib.ListN.{drop}
use lib.Dec.{ltb}
use borrow.Author.Rules.{rules}
use borrow.Author.Tests.{not-true, not-false, lt-ltb, le-ltb}
use Rattle.text.specs.Ascii.{Bytes, ascii}
use Rattle.text.specs.Compare.{starts_with}
use Rattle.text.specs.Sames.{no_true}
use Rattle.fields.specs.Fields.{Style, ansi}
use Rattle.fields.specs.Meant.{dir_is}
use Rattle.joblines.specs.Lines.{check, fields, may_have, port_of, decl_of, conn_of}
use Rattle.joblines.specs.Forms.{port_meant, decl_meant, conn_meant, port_read, decl_read, conn_read, verdict}
use Rattle.joblines.specs.Reads.{restrict, port_style}
use Rattle.joblines.specs.declared.form.PortForm.{PortForm}
use Rattle.joblines.specs.declared.form.DeclForm.{DeclForm}
use Rattle.joblines.specs.declared.form.ConnForm.{ConnForm}

-- ---- a form that is none
none_is : {A : Type 0} (o : Option A) → is_none o ≡ true → o ≡ None
none_is None h = refl
none_is (Some a) h = absurd (no_true h)

some_is : {A : Type 0} (o : Option A) → is_none o ≡ false → (a : A) × (o ≡ Some a)
some_is None h = absurd (no_true (sym h))
some_is (Some a) h = (a, refl)

module _ (line : Bytes) (t : Bool) (style : Style) (count : ℕ) (et : t ≡ starts_with (ascii "port=") line) where
  pub port_other : not t ≡ true → Ok false ≡ verdict (port_read style count line)
  unfolding port_read
  port_other h = rw (← et, not-true t h)

  module _ (h : not t ≡ false) (v : Bytes) (ev : v ≡ drop 5 line) (f : Option PortForm) (ef : port_meant v f ≡ port_of ansi (fields v)) where
    port_is : verdict (port_read style count line) ≡ verdict (Some (check (restrict style (port_meant v f)) (ltb count 64) (λ p. true)))
    unfolding port_read
    port_is = rw (← et, not-false t h, ← ev, port_style style (fields v), ef)

    pub port_form_bad : f ≡ None → Err 4 ≡ verdict (port_read style count line)
    port_form_bad e = sym (port_is ∙ rw e)

    module _ (p : PortForm) (e : f ≡ Some p) (m : Bool) (em : m ≡ may_have style (dir_is p.dir)) where
      pub port_may_not : not m ≡ true → Err 4 ≡ verdict (port_read style count line)
      port_may_not g = sym (port_is ∙ rw (e, ← em, not-true m g))

      module _ (g : not m ≡ false) where
        pub port_many : 64 ≤ count → Err 5 ≡ verdict (port_read style count line)
        port_many l = sym (port_is ∙ rw (e, ← em, not-false m g, le-ltb count 64 l))

        pub port_few : count < 64 → Ok true ≡ verdict (port_read style count line)
        port_few l = sym (port_is ∙ rw (e, ← em, not-false m g, lt-ltb count 64 l))

pub ruleset port_lines = (rules, port_other, port_form_bad, port_may_not, port_many, port_few)

module _ (line : Bytes) (t : Bool) (count : ℕ) (et : t ≡ starts_with (ascii "decl=") line) where
  pub decl_other : not t ≡ true → Ok false ≡ verdict (decl_read count line)
  unfolding decl_read
  decl_other h = rw (← et, not-true t h)

  module _ (h : not t ≡ false) (v : Bytes) (ev : v ≡ drop 5 line) (f : Option DeclForm) (ef : decl_meant v f ≡ decl_of (fields v)) where
    decl_is : verdict (decl_read count line) ≡ verdict (Some (check (decl_meant v f) (ltb count 128) (λ p. true)))
    unfolding decl_read
    decl_is = rw (← et, not-false t h, ← ev, ef)

    module _ (k : Bool) (ek : k ≡ is_none f) where
      pub decl_form_bad : k ≡ true → Err 4 ≡ verdict (decl_read count line)
      decl_form_bad g = sym (decl_is ∙ rw (none_is f (sym ek ∙ g)))

      module _ (g : k ≡ false) where
        pub decl_many : 128 ≤ count → Err 5 ≡ verdict (decl_read count line)
        decl_many l = let w = some_is f (sym ek ∙ g) in sym (decl_is ∙ rw (w.1, le-ltb count 128 l))

        pub decl_few : count < 128 → Ok true ≡ verdict (decl_read count line)
        decl_few l = let w = some_is f (sym ek ∙ g) in sym (decl_is ∙ rw (w.1, lt-ltb count 128 l))

pub ruleset decl_lines = (rules, decl_other, decl_form_bad, decl_many, decl_few)

module _ (line : Bytes) (t : Bool) (count : ℕ) (et : t ≡ starts_with (ascii "conn=") line) where
  pub conn_other : not t ≡ true → Ok false ≡ verdict (conn_read count line)
  unfolding conn_read
  conn_other h = rw (← et, not-true t h)

  module _ (h : not t ≡ false) (v : Bytes) (ev : v ≡ drop 5 line) (f : Option ConnForm) (ef : conn_meant v f ≡ conn_of (fields v)) where
    conn_is_lem : verdict (conn_read count line) ≡ verdict (Some (check (conn_meant v f) (ltb count 64) (λ p. true)))
    unfolding conn_read
    conn_is_lem = rw (← et, not-false t h, ← ev, ef)

    module _ (k : Bool) (ek : k ≡ is_none f) where
      pub conn_form_bad : k ≡ true → Err 4 ≡ verdict (conn_read count line)
      conn_form_bad g = sym (conn_is_lem ∙ rw (none_is f (sym ek ∙ g)))

      module _ (g : k ≡ false) where
        pub conn_many : 64 ≤ count → Err 5 ≡ verdict (conn_read count line)
        conn_many l = let w = some_is f (sym ek ∙ g) in sym (conn_is_lem ∙ rw (w.1, le-ltb count 64 l))

        pub conn_few : count < 64 → Ok true ≡ verdict (conn_read count line)
        conn_few l = let w = some_is f (sym ek ∙ g) in sym (conn_is_lem ∙ rw (w.1, lt-ltb count 64 l))

pub ruleset conn_lines = (rules, conn_other, conn_form_bad, conn_many, conn_few)
