-- Every accepted job is well formed.
-- Assumes nothing.
use Rattle.std.specs.Prelude.{◌≡◌, refl, ℕ, zero, suc, ◌+◌, Bool, true, false, cond, ◌&&◌, ◌||◌, List, [], ◌∷◌, length, leb, Option, None, Some}
use Rattle.std.proofs.Common.{ap, ◌∙◌, arith}
use Rattle.text.specs.Ascii.{Bytes}
use Rattle.text.specs.Classes.{is_ascii, in_name}
use Rattle.text.specs.Compare.{same}
use Rattle.text.specs.Scan.{all, any}
use Rattle.text.specs.Sames.{both, no_true, same_eq}
use Rattle.fields.specs.Fields.{is_name, is_path}
use Rattle.fields.specs.Names.{name_bytes}
use Rattle.joblines.specs.Job.{File, Module, Job, no_job}
use Rattle.joblines.specs.Lines.{Read, refuse, on, Due, due_top, due_override, due_start, due_file, due_bytes, due_more, due_style, due_ports, due_decls, due_insts, due_nothing, or_else, first_of, kinds_due, read_line}
use Rattle.joblines.specs.Parse.{Parsed, accepted, refused, is_nothing, has_line, first_line, behind_line, carry_on, lines, listed, parse}
use Rattle.jobfacts.specs.WellFormed.{All, distinct, GoodFile, GoodModule, GoodLists, WellFormed}
use Rattle.jobfacts.specs.Kept.{Goes, top_kept, override_kept, start_kept, file_kept, bytes_kept, module_kept, style_kept, port_kept, decl_kept, inst_kept, conn_kept, end_kept}

-- ---- one line
abbrev Keeps : Due → (Job → Bytes → Bytes → Option Read) → Type 0
Keeps d K = (j j' : Job) (line rest rest' : Bytes) (d' : Due) → Goes d j → K j line rest ≡ Some (on d' j' rest') → Goes d' j'

first_kept : (d : Due) (ks : List (Job → Bytes → Bytes → Option Read)) → All (Keeps d) ks → (j j' : Job) (line rest rest' : Bytes) (d' : Due) → Goes d j → first_of ks j line rest ≡ on d' j' rest' → Goes d' j'
first_kept d [] a j j' line rest rest' d' g h = absurd (let z : ◌≡◌ {A = ℕ} 0 1 = cc in omega arith)
first_kept d (K ∷ ks) a j j' line rest rest' d' g h = go (K j line rest) refl h (λ e. first_kept d ks a.1 j j' line rest rest' d' g e)
  where
    go : (o : Option Read) → K j line rest ≡ o → or_else o (first_of ks j line rest) ≡ on d' j' rest' → (first_of ks j line rest ≡ on d' j' rest' → Goes d' j') → Goes d' j'
    go None e q f = f q
    go (Some r) e q f = a.0 j j' line rest rest' d' g (e ∙ ap Some q)

kinds_kept : (d : Due) → All (Keeps d) (kinds_due d)
kinds_kept due_top = ((λ j j' line rest rest' d' g. top_kept j j' line rest rest' d' g.0), tt)
kinds_kept due_override = ((λ j j' line rest rest' d' g. override_kept j j' line rest rest' d' g.0), tt)
kinds_kept due_start = ((λ j j' line rest rest' d' g. start_kept j j' line rest rest' d' g.0), tt)
kinds_kept due_file = ((λ j j' line rest rest' d' g. file_kept j j' line rest rest' d' g.0), tt)
kinds_kept (due_bytes p) = ((λ j j' line rest rest' d' g. bytes_kept j j' line rest rest' d' g.0 p g.1), tt)
kinds_kept due_more = ((λ j j' line rest rest' d' g. file_kept j j' line rest rest' d' g.0), ((λ j j' line rest rest' d' g. module_kept j j' line rest rest' d' g.0), tt))
kinds_kept (due_style n) = ((λ j j' line rest rest' d' g. style_kept j j' line rest rest' d' g.0 n g.1), tt)
kinds_kept due_ports = (
  (λ j j' line rest rest' d' g. port_kept j j' line rest rest' d' g.0),
  (
    (λ j j' line rest rest' d' g. decl_kept j j' line rest rest' d' g.0),
    (
      (λ j j' line rest rest' d' g. inst_kept j j' line rest rest' d' g.0),
      ((λ j j' line rest rest' d' g. module_kept j j' line rest rest' d' g.0), ((λ j j' line rest rest' d' g. end_kept j j' line rest rest' d' g.0), tt)),
    ),
  ),
)
kinds_kept due_decls = (
  (λ j j' line rest rest' d' g. decl_kept j j' line rest rest' d' g.0),
  (
    (λ j j' line rest rest' d' g. inst_kept j j' line rest rest' d' g.0),
    ((λ j j' line rest rest' d' g. module_kept j j' line rest rest' d' g.0), ((λ j j' line rest rest' d' g. end_kept j j' line rest rest' d' g.0), tt)),
  ),
)
kinds_kept due_insts = (
  (λ j j' line rest rest' d' g. conn_kept j j' line rest rest' d' g.0),
  (
    (λ j j' line rest rest' d' g. inst_kept j j' line rest rest' d' g.0),
    ((λ j j' line rest rest' d' g. module_kept j j' line rest rest' d' g.0), ((λ j j' line rest rest' d' g. end_kept j j' line rest rest' d' g.0), tt)),
  ),
)
kinds_kept due_nothing = tt

-- ---- line by line
lines_kept : (k n : ℕ) (d : Due) (j j' : Job) (rest : Bytes) → Goes d j → lines k n d j rest ≡ accepted j' → GoodLists j'
unfolding lines read_line
lines_kept zero n d j j' rest g h = absurd (let z : ◌≡◌ {A = ℕ} 0 1 = cc in omega arith)
lines_kept (suc k) n d j j' rest g h =
    go (is_nothing d) (same rest []) (has_line rest) (first_of (kinds_due d) j (first_line rest) (behind_line rest)) refl h (λ d'' j'' rest'' g'' e. lines_kept k (n + 1) d'' j'' j' rest'' g'' e)
  where
    go : (a b c : Bool) (r : Read) → first_of (kinds_due d) j (first_line rest) (behind_line rest) ≡ r → cond a (cond b (accepted j) (refused 4 (n + 1))) (cond c (carry_on n r (lines k (n + 1))) (refused 4 (n + 1))) ≡ accepted j'
        → ((d'' : Due) (j'' : Job) (rest'' : Bytes) → Goes d'' j'' → lines k (n + 1) d'' j'' rest'' ≡ accepted j' → GoodLists j') → GoodLists j'
    go true true c r er e f = let z : j ≡ j' = cc in rw z at g.0
    go true false c r er e f = absurd (let z : ◌≡◌ {A = ℕ} 0 1 = cc in omega arith)
    go false b true (refuse x) er e f = absurd (let z : ◌≡◌ {A = ℕ} 0 1 = cc in omega arith)
    go false b true (on d'' j'' rest'') er e f = f d'' j'' rest'' (first_kept d (kinds_due d) (kinds_kept d) j j'' (first_line rest) (behind_line rest) rest'' d'' g er) e
    go false b false r er e f = absurd (let z : ◌≡◌ {A = ℕ} 0 1 = cc in omega arith)

-- ---- what is listed is good
start_good : (fs : List File) (p : Bytes) → All GoodFile fs → any (λ (f : File). same f.path p) fs ≡ true → is_path p ≡ true
unfolding any
start_good [] p a h = absurd (no_true h)
start_good (f ∷ fs) p a h = go (same f.path p) refl h (λ e. start_good fs p a.1 e)
  where
    go : (b : Bool) → same f.path p ≡ b → (b || any (λ (f : File). same f.path p) fs) ≡ true → (any (λ (f : File). same f.path p) fs ≡ true → is_path p ≡ true) → is_path p ≡ true
    go true e q r = rw (same_eq f.path p e) at a.0
    go false e q r = r q

top_good : (ms : List Module) (n : Bytes) → All GoodModule ms → any (λ (m : Module). same m.name n) ms ≡ true → is_name n ≡ true
unfolding any
top_good [] n a h = absurd (no_true h)
top_good (m ∷ ms) n a h = go (same m.name n) refl h (λ e. top_good ms n a.1 e)
  where
    go : (b : Bool) → same m.name n ≡ b → (b || any (λ (m : Module). same m.name n) ms) ≡ true → (any (λ (m : Module). same m.name n) ms ≡ true → is_name n ≡ true) → is_name n ≡ true
    go true e q r = rw (same_eq m.name n e) at a.0.name
    go false e q r = r q

-- EVERY ACCEPTED JOB IS WELL FORMED
pub accepted_good : (t : Bytes) (j : Job) → parse t ≡ accepted j → WellFormed j
unfolding parse distinct
accepted_good t j h = go (leb (length t) 65536) (all is_ascii t) (lines (length t + 1) 0 due_top no_job t) refl h
  where
    none_yet : Goes due_top no_job
    none_yet = (record { files = tt; files_few = omega arith; files_distinct = refl; modules = tt; modules_few = omega arith; modules_distinct = refl }, tt)

    whole : (k : Job) → lines (length t + 1) 0 due_top no_job t ≡ accepted k → (b : Bool)
        → (any (λ (f : File). same f.path k.start) k.files && any (λ (m : Module). same m.name k.top) k.modules) ≡ b → cond b (accepted k) (refused 7 0) ≡ accepted j → WellFormed j
    whole k e true l q =
        let z : k ≡ j = cc in
        let o = both (any (λ (f : File). same f.path k.start) k.files) (any (λ (m : Module). same m.name k.top) k.modules) l in
        let g = lines_kept (length t + 1) 0 due_top no_job k t none_yet e in
        let w : WellFormed k = record { lists = g; top_name = top_good k.modules k.top g.modules o.1; start_path = start_good k.files k.start g.files o.0; start_listed = o.0; top_listed = o.1 } in
        rw z at w
    whole k e false l q = absurd (let z : ◌≡◌ {A = ℕ} 0 1 = cc in omega arith)

    go : (a b : Bool) (p : Parsed) → lines (length t + 1) 0 due_top no_job t ≡ p → cond a (cond b (listed p) (refused 3 0)) (refused 2 0) ≡ accepted j → WellFormed j
    go false b p e q = absurd (let z : ◌≡◌ {A = ℕ} 0 1 = cc in omega arith)
    go true false p e q = absurd (let z : ◌≡◌ {A = ℕ} 0 1 = cc in omega arith)
    go true true (refused x n) e q = absurd (let z : ◌≡◌ {A = ℕ} 0 1 = cc in omega arith)
    go true true (accepted k) e q = whole k e (any (λ (f : File). same f.path k.start) k.files && any (λ (m : Module). same m.name k.top) k.modules) refl q

-- every byte of a NAME is a name byte: of `top`, and so of every name that is good
pub top_bytes : (t : Bytes) (j : Job) → parse t ≡ accepted j → all in_name j.top ≡ true
top_bytes t j h = name_bytes j.top (accepted_good t j h).top_name
