-- Laws: a section, one line further. i is where a line begins, e its LF, as a scan of the section s finds them.
-- Assumes nothing.
use Rattle.std.proofs.Math.Path.{◌≡◌, refl, ap}
use Rattle.std.proofs.Common.{◌∙◌, sym, suc-add, arith, length-drop, drop-drop, lt-ltb, ltb-false}
use Prim.Native.Nat.{ℕ, suc, ◌+◌, ◌-◌, ◌<◌}
use Rattle.std.specs.Prelude.{Bool, true, false, cond, length, take, drop, ltb, eqb, Option, None, Some}
use mathlib.Core.List.{List, [], ◌∷◌, ◌++◌, append_assoc}
use Rattle.std.proofs.Math.Dec.{leb-suc-suc}
use Rattle.text.specs.Ascii.{Bytes, byte}
use Rattle.text.specs.Scan.{before, up_to}
use Rattle.text.specs.Sames.{no_true}
use Rattle.joblines.specs.Job.{Port, Decl, Conn, Inst}
use Rattle.joblines.specs.Lines.{on_last, add_conn}
use Rattle.joblines.specs.Parse.{line_size, has_line, first_line, behind_line}
use Rattle.joblines.specs.Sections.{onto_first, lines_in, port_here, decl_here, inst_here, conn_here, with_some, gather, ports_in, decls_in, conns_step, conns_of, with_conns, insts_step, insts_of, conns_in, insts_in}

-- ---- the first line
pub lines_here : (s : Bytes) → has_line s ≡ true → lines_in s ≡ first_line s ∷ lines_in (behind_line s)
unfolding before lines_in
lines_here [] h = absurd (no_true h)
lines_here (x ∷ xs) h = go (eqb x (byte "\n")) (λ k. lines_here xs k) h
  where
    go : (q : Bool) → (has_line xs ≡ true → lines_in xs ≡ first_line xs ∷ lines_in (behind_line xs))
        → ltb (cond q 0 (suc (line_size xs))) (suc (length xs)) ≡ true
        → cond q ([] ∷ lines_in xs) (onto_first x (lines_in xs)) ≡ take (cond q 0 (suc (line_size xs))) (x ∷ xs) ∷ lines_in (drop (cond q 0 (suc (line_size xs)) + 1) (x ∷ xs))
    go true f k = refl
    go false f k = rw (f (rw leb-suc-suc at k), suc-add)

pub lines_none : (s : Bytes) → has_line s ≡ false → lines_in s ≡ []
unfolding before lines_in
lines_none [] h = refl
lines_none (x ∷ xs) h = go (eqb x (byte "\n")) (λ k. lines_none xs k) h
  where
    go : (q : Bool) → (has_line xs ≡ false → lines_in xs ≡ []) → ltb (cond q 0 (suc (line_size xs))) (suc (length xs)) ≡ false
        → cond q ([] ∷ lines_in xs) (onto_first x (lines_in xs)) ≡ []
    go true f k = absurd (omega (arith, ltb-false 0 (suc (length xs)) k))
    go false f k = rw (f (rw leb-suc-suc at k))

module _ (s : Bytes) (i e : ℕ) (at : e ≡ i + up_to (byte "\n") (drop i s)) (h : e < length s) where
  pub line_there : has_line (drop i s) ≡ true
  line_there = lt-ltb (line_size (drop i s)) (length (drop i s)) (omega (arith, length-drop i s))

  -- the law of every scan: the line from i up to e, and then the lines behind it
  pub lines_at : lines_in (drop i s) ≡ take (e - i) (drop i s) ∷ lines_in (drop (e + 1) s)
  lines_at =
      let n : line_size (drop i s) ≡ e - i = omega arith in
      let m : i + (e - i + 1) ≡ e + 1 = omega arith in
      lines_here (drop i s) line_there ∙ rw (n, drop-drop (e - i + 1) i s, m)

  -- what it lists
  pub ports_at : (p : Port) → port_here (take (e - i) (drop i s)) ≡ Some p → ports_in (drop i s) ≡ p ∷ ports_in (drop (e + 1) s)
  unfolding gather
  ports_at p l = rw (lines_at, l)

  pub decls_at : (d : Decl) → decl_here (take (e - i) (drop i s)) ≡ Some d → decls_in (drop i s) ≡ d ∷ decls_in (drop (e + 1) s)
  unfolding gather
  decls_at d l = rw (lines_at, l)

  pub insts_at : (n : Inst) → inst_here (take (e - i) (drop i s)) ≡ Some n → insts_in (drop i s) ≡ with_conns n (conns_in (drop (e + 1) s)) ∷ insts_in (drop (e + 1) s)
  unfolding insts_of
  insts_at n l = rw (lines_at, l)

  pub insts_past : inst_here (take (e - i) (drop i s)) ≡ None → insts_in (drop i s) ≡ insts_in (drop (e + 1) s)
  unfolding insts_of
  insts_past l = rw (lines_at, l)

  pub conns_at : (c : Conn) → inst_here (take (e - i) (drop i s)) ≡ None → conn_here (take (e - i) (drop i s)) ≡ Some c → conns_in (drop i s) ≡ c ∷ conns_in (drop (e + 1) s)
  unfolding conns_of
  conns_at c n l = rw (lines_at, n, l)

  pub conns_end : (n : Inst) → inst_here (take (e - i) (drop i s)) ≡ Some n → conns_in (drop i s) ≡ []
  unfolding conns_of
  conns_end n l = rw (lines_at, l)

-- ---- a section that ends with a line: what is appended to it begins with a line
abbrev pub Whole : Bytes → Type 0
Whole a = (b : Bytes) → lines_in (a ++ b) ≡ lines_in a ++ lines_in b

pub whole_none : Whole []
unfolding lines_in
whole_none b = refl

pub whole_append : (a c : Bytes) → Whole a → Whole c → Whole (a ++ c)
whole_append a c f g b =
    ap lines_in (append_assoc a c b) ∙ (f (c ++ b) ∙ (ap (λ ls. lines_in a ++ ls) (g b) ∙ (sym (append_assoc (lines_in a) (lines_in c) (lines_in b)) ∙ ap (λ ls. ls ++ lines_in b) (sym (f c)))))

-- a line with its LF; the line has no LF in it
pub one_line : (l b : Bytes) → up_to (byte "\n") l ≡ length l → lines_in (l ++ byte "\n" ∷ b) ≡ l ∷ lines_in b
unfolding before lines_in
one_line [] b h = refl
one_line (x ∷ l) b h = go (eqb x (byte "\n")) (λ k. one_line l b k) h
  where
    go : (q : Bool) → (up_to (byte "\n") l ≡ length l → lines_in (l ++ byte "\n" ∷ b) ≡ l ∷ lines_in b) → cond q 0 (suc (up_to (byte "\n") l)) ≡ suc (length l) → cond q ([] ∷ lines_in (l ++ byte "\n" ∷ b)) (onto_first x (lines_in (l ++ byte "\n" ∷ b))) ≡ (x ∷ l) ∷ lines_in b
    go true f k = absurd (omega arith)
    go false f k = rw (f (omega arith))

pub whole_line : (l : Bytes) → up_to (byte "\n") l ≡ length l → Whole (l ++ byte "\n" ∷ [])
unfolding lines_in
whole_line l h b = rw (append_assoc l (byte "\n" ∷ []) b, one_line l b h, one_line l [] h)

pub lines_more : (a l : Bytes) → Whole a → up_to (byte "\n") l ≡ length l → lines_in (a ++ (l ++ byte "\n" ∷ [])) ≡ lines_in a ++ (l ∷ [])
unfolding lines_in
lines_more a l f h = f (l ++ byte "\n" ∷ []) ∙ rw (one_line l [] h)

-- ---- one line more
pub gather_more : {A : Type 0} (f : Bytes → Option A) (ls : List Bytes) (l : Bytes) (a : A) → f l ≡ Some a → gather f (ls ++ (l ∷ [])) ≡ gather f ls ++ (a ∷ [])
unfolding gather
gather_more f [] l a e = rw e
gather_more f (k ∷ ls) l a e = rw (gather_more f ls l a e) (go (f k))
  where
    go : (o : Option _) → with_some o (gather f ls ++ (a ∷ [])) ≡ with_some o (gather f ls) ++ (a ∷ [])
    go None = refl
    go (Some b) = refl

conns_inst : (ls : List Bytes) (l : Bytes) (i : Inst) → inst_here l ≡ Some i → conns_of (ls ++ (l ∷ [])) ≡ conns_of ls
unfolding conns_of
conns_inst [] l i e = rw e
conns_inst (k ∷ ls) l i e = rw (conns_inst ls l i e)

pub insts_more : (ls : List Bytes) (l : Bytes) (i : Inst) → inst_here l ≡ Some i → insts_of (ls ++ (l ∷ [])) ≡ insts_of ls ++ (with_conns i [] ∷ [])
unfolding insts_of conns_of
insts_more [] l i e = rw e
insts_more (k ∷ ls) l i e = rw (insts_more ls l i e, conns_inst ls l i e) (go (inst_here k))
  where
    go : (o : Option Inst) → insts_step o (conns_of ls) (insts_of ls ++ (with_conns i [] ∷ [])) ≡ insts_step o (conns_of ls) (insts_of ls) ++ (with_conns i [] ∷ [])
    go None = refl
    go (Some n) = refl

module _ (l : Bytes) (c : Conn) (n : inst_here l ≡ None) (e : conn_here l ≡ Some c) where
  -- the connection goes to the last instance; where there is none behind, to the connections at hand
  conns_last : (ls : List Bytes) → insts_of ls ≡ [] → conns_of (ls ++ (l ∷ [])) ≡ conns_of ls ++ (c ∷ [])
  unfolding insts_of conns_of
  conns_last [] h = rw (n, e)
  conns_last (k ∷ ls) h = go (inst_here k) (λ g. conns_last ls g) h
    where
      go : (o : Option Inst) → (insts_of ls ≡ [] → conns_of (ls ++ (l ∷ [])) ≡ conns_of ls ++ (c ∷ [])) → insts_step o (conns_of ls) (insts_of ls) ≡ []
          → conns_step o (conn_here k) (conns_of (ls ++ (l ∷ []))) ≡ conns_step o (conn_here k) (conns_of ls) ++ (c ∷ [])
      go None f g = rw (f g) (on (conn_here k))
        where
          on : (o : Option Conn) → conns_step None o (conns_of ls ++ (c ∷ [])) ≡ conns_step None o (conns_of ls) ++ (c ∷ [])
          on None = refl
          on (Some d) = refl
      go (Some i) f g = let z : ◌≡◌ {A = ℕ} 1 0 = ap count g in absurd (omega arith)
        where
          count : List Inst → ℕ
          count [] = 0
          count (i ∷ is) = 1

  conns_kept : (ls : List Bytes) (i : Inst) (is : List Inst) → insts_of ls ≡ i ∷ is → conns_of (ls ++ (l ∷ [])) ≡ conns_of ls
  unfolding insts_of conns_of
  conns_kept [] i is h = let z : ◌≡◌ {A = ℕ} 0 1 = ap count h in absurd (omega arith)
    where
      count : List Inst → ℕ
      count [] = 0
      count (i ∷ is) = 1
  conns_kept (k ∷ ls) i is h = go (inst_here k) (λ g. conns_kept ls i is g) h
    where
      go : (o : Option Inst) → (insts_of ls ≡ i ∷ is → conns_of (ls ++ (l ∷ [])) ≡ conns_of ls) → insts_step o (conns_of ls) (insts_of ls) ≡ i ∷ is → conns_step o (conn_here k) (conns_of (ls ++ (l ∷ []))) ≡ conns_step o (conn_here k) (conns_of ls)
      go None f g = rw (f g)
      go (Some m) f g = refl

  pub insts_conn : (ls : List Bytes) → insts_of (ls ++ (l ∷ [])) ≡ on_last (add_conn c) (insts_of ls)
  unfolding insts_of conns_of
  insts_conn [] = rw n
  insts_conn (k ∷ ls) = go (inst_here k) (insts_of ls) refl (insts_conn ls)
    where
      go : (o : Option Inst) (is : List Inst) → insts_of ls ≡ is → insts_of (ls ++ (l ∷ [])) ≡ on_last (add_conn c) (insts_of ls) → insts_step o (conns_of (ls ++ (l ∷ []))) (insts_of (ls ++ (l ∷ []))) ≡ on_last (add_conn c) (insts_step o (conns_of ls) (insts_of ls))
      go None is h f = f
      go (Some m) [] h f = rw (f, conns_last ls h, h)
      go (Some m) (i ∷ is) h f = rw (f, conns_kept ls i is h, h)
