-- The bodies of an accepted job's files have together no more bytes than the job.
-- Assumes nothing.
use Rattle.std.specs.Prelude.{◌≡◌, refl, Bool, cond, ◌&&◌, drop, leb, ltb, option_map, Option, None, Some}
use Prim.Native.Nat.{ℕ, zero, suc, ◌+◌, ◌-◌, ◌≤◌}
use Rattle.std.proofs.Common.{arith, leb-true}
use Rattle.std.proofs.Math.Bool.{true, false}
use mathlib.Core.List.{List, [], ◌∷◌, ◌++◌, map}
use Rattle.std.proofs.Math.ListN.{length, take, length-take, length-drop}
use Rattle.text.specs.Ascii.{Bytes, ascii}
use Rattle.text.specs.Classes.{is_ascii}
use Rattle.text.specs.Compare.{same, starts_with}
use Rattle.text.specs.Scan.{all, any}
use Rattle.text.specs.Numbers.{is_decimal, value_from}
use Rattle.fields.specs.Fields.{is_name, is_path, style_of}
use Rattle.joblines.specs.Job.{File, Inst, Module, Job, no_job}
use Rattle.joblines.specs.Lines.{Read, refuse, on, Due, due_top, due_override, due_start, due_file, due_bytes, due_more, due_style, due_ports, due_decls, due_insts, due_nothing, Checked, bad, good, check, and_then, when, fields, is_body, this_module, this_inst, port_of, decl_of, conn_of, file_read, module_read, inst_read, or_else, first_of, kinds_due, read_line, top_line, override_line, start_line, file_line, bytes_line, module_line, style_line, port_line, decl_line, inst_line, conn_line, end_line}
use Rattle.joblines.specs.Parse.{Parsed, accepted, refused, is_nothing, has_line, line_size, first_line, behind_line, carry_on, lines, listed, parse}
use Rattle.jobfacts.specs.WellFormed.{All}

unfoldable pub body_size : List File → ℕ
body_size [] = 0
body_size (f ∷ fs) = length f.body + body_size fs

pub size_more : (fs : List File) (f : File) → body_size (fs ++ (f ∷ [])) ≡ body_size fs + length f.body
unfolding body_size
size_more [] f = omega arith
size_more (x ∷ fs) f = omega (arith, size_more fs f)

-- the bodies so far and what is left
unfoldable Fits : ℕ → Read → Type 0
Fits n (refuse x) = Unit {0}
Fits n (on d j rest) = body_size j.files + length rest ≤ n

unfoldable FitsIf : ℕ → Option Read → Type 0
FitsIf n None = Unit {0}
FitsIf n (Some r) = Fits n r

module _ (n : ℕ) where
  then_fits : {A : Type 0} (c : Checked A) (go : A → Read) → ((a : A) → Fits n (go a)) → Fits n (and_then c go)
  unfolding Fits
  then_fits (bad x) go f = tt
  then_fits (good a) go f = f a

  when_fits : (b : Bool) (r : Read) → Fits n r → FitsIf n (when b r)
  unfolding FitsIf
  when_fits true r f = f
  when_fits false r f = tt

  map_fits : {A : Type 0} (R : Option (Checked A)) (go : A → Read) → ((a : A) → Fits n (go a)) → FitsIf n (option_map (λ (r : Checked A). and_then r go) R)
  unfolding FitsIf
  map_fits None go f = tt
  map_fits (Some c) go f = then_fits c go f

  on_fits : (d : Due) (j : Job) (rest : Bytes) → body_size j.files + length rest ≤ n → Fits n (on d j rest)
  unfolding Fits
  on_fits d j rest h = h

  fits_on : (d : Due) (j : Job) (rest : Bytes) → Fits n (on d j rest) → body_size j.files + length rest ≤ n
  unfolding Fits
  fits_on d j rest h = h

  -- ---- one line
  module _ (j : Job) (line rest : Bytes) (h : body_size j.files + length rest ≤ n) where
    top_fits : FitsIf n (top_line j line rest)
    unfolding top_line
    top_fits = when_fits (starts_with (ascii "top=") line) _ (then_fits (check (when (is_name (drop 4 line)) (drop 4 line)) true (λ _. true)) _ (λ a. on_fits _ _ _ h))

    override_fits : FitsIf n (override_line j line rest)
    unfolding override_line
    override_fits = when_fits (starts_with (ascii "override=") line) _ (on_fits _ _ _ h)

    start_fits : FitsIf n (start_line j line rest)
    unfolding start_line
    start_fits = when_fits (starts_with (ascii "start=") line) _ (then_fits (check (when (is_path (drop 6 line)) (drop 6 line)) true (λ _. true)) _ (λ a. on_fits _ _ _ h))

    file_fits : FitsIf n (file_line j line rest)
    unfolding file_line
    file_fits = map_fits (file_read (map (λ (f : File). f.path) j.files) line) _ (λ a. on_fits _ _ _ h)

    bytes_fits : (p : Bytes) → FitsIf n (bytes_line p j line rest)
    unfolding bytes_line
    bytes_fits p =
        when_fits (starts_with (ascii "bytes=") line) _ (then_fits (check (when (is_decimal (drop 6 line) && is_body (value_from 0 (drop 6 line)) rest) (value_from 0 (drop 6 line))) true (λ _. true)) _ (λ a. on_fits _ _ _ (omega (arith, h, size_more j.files (record { path = p; body = take a rest }), length-take a rest, length-drop (a + 1) rest))))

    module_fits : FitsIf n (module_line j line rest)
    unfolding module_line
    module_fits = map_fits (module_read (map (λ (m : Module). m.name) j.modules) line) _ (λ a. on_fits _ _ _ h)

    style_fits : (m : Bytes) → FitsIf n (style_line m j line rest)
    unfolding style_line
    style_fits m = when_fits (starts_with (ascii "style=") line) _ (then_fits (check (style_of (drop 6 line)) true (λ _. true)) _ (λ a. on_fits _ _ _ h))

    port_fits : FitsIf n (port_line j line rest)
    unfolding port_line
    port_fits = when_fits (starts_with (ascii "port=") line) _ (then_fits (check (port_of (this_module j).style (fields (drop 5 line))) (ltb (length (this_module j).ports) 64) (λ _. true)) _ (λ a. on_fits _ _ _ h))

    decl_fits : FitsIf n (decl_line j line rest)
    unfolding decl_line
    decl_fits = when_fits (starts_with (ascii "decl=") line) _ (then_fits (check (decl_of (fields (drop 5 line))) (ltb (length (this_module j).decls) 128) (λ _. true)) _ (λ a. on_fits _ _ _ h))

    inst_fits : FitsIf n (inst_line j line rest)
    unfolding inst_line
    inst_fits = map_fits (inst_read (map (λ (k : Inst). k.name) (this_module j).insts) line) _ (λ a. on_fits _ _ _ h)

    conn_fits : FitsIf n (conn_line j line rest)
    unfolding conn_line
    conn_fits = when_fits (starts_with (ascii "conn=") line) _ (then_fits (check (conn_of (fields (drop 5 line))) (ltb (length (this_inst j).conns) 64) (λ _. true)) _ (λ a. on_fits _ _ _ h))

    end_fits : FitsIf n (end_line j line rest)
    unfolding end_line
    end_fits = when_fits (same line (ascii "end=")) _ (on_fits _ _ _ h)

    kinds_fit : (d : Due) → All (λ (k : Job → Bytes → Bytes → Option Read). FitsIf n (k j line rest)) (kinds_due d)
    kinds_fit due_top = (top_fits, tt)
    kinds_fit due_override = (override_fits, tt)
    kinds_fit due_start = (start_fits, tt)
    kinds_fit due_file = (file_fits, tt)
    kinds_fit (due_bytes p) = (bytes_fits p, tt)
    kinds_fit due_more = (file_fits, (module_fits, tt))
    kinds_fit (due_style m) = (style_fits m, tt)
    kinds_fit due_ports = (port_fits, (decl_fits, (inst_fits, (module_fits, (end_fits, tt)))))
    kinds_fit due_decls = (decl_fits, (inst_fits, (module_fits, (end_fits, tt))))
    kinds_fit due_insts = (conn_fits, (inst_fits, (module_fits, (end_fits, tt))))
    kinds_fit due_nothing = tt

    or_fits : (r : Option Read) (r' : Read) → FitsIf n r → Fits n r' → Fits n (or_else r r')
    unfolding FitsIf
    or_fits None r' f g = g
    or_fits (Some r) r' f g = f

    first_fits : (ks : List (Job → Bytes → Bytes → Option Read)) → All (λ (k : Job → Bytes → Bytes → Option Read). FitsIf n (k j line rest)) ks → Fits n (first_of ks j line rest)
    unfolding Fits
    first_fits [] a = tt
    first_fits (k ∷ ks) a = or_fits (k j line rest) (first_of ks j line rest) a.0 (first_fits ks a.1)

    line_fits : (d : Due) → Fits n (read_line d j line rest)
    unfolding read_line
    line_fits d = first_fits (kinds_due d) (kinds_fit d)

  -- ---- line by line
  abbrev AllFit : Parsed → Type 0
  AllFit (accepted j) = body_size j.files ≤ n
  AllFit (refused x k) = Unit {0}

  lines_fit : (k m : ℕ) (d : Due) (j : Job) (rest : Bytes) → body_size j.files + length rest ≤ n → AllFit (lines k m d j rest)
  unfolding lines
  lines_fit zero m d j rest h = tt
  lines_fit (suc k) m d j rest h =
      go (is_nothing d) (same rest []) (has_line rest) (read_line d j (first_line rest) (behind_line rest))
      (line_fits j (first_line rest) (behind_line rest) (omega (arith, h, length-drop (line_size rest + 1) rest)) d)
      (λ d'' j'' rest'' f. lines_fit k (m + 1) d'' j'' rest'' f)
    where
      go : (a b c : Bool) (r : Read) → Fits n r → ((d'' : Due) (j'' : Job) (rest'' : Bytes) → body_size j''.files + length rest'' ≤ n → AllFit (lines k (m + 1) d'' j'' rest''))
          → AllFit (cond a (cond b (accepted j) (refused 4 (m + 1))) (cond c (carry_on m r (lines k (m + 1))) (refused 4 (m + 1))))
      go true true c r f g = omega (arith, h)
      go true false c r f g = tt
      go false b true (refuse x) f g = tt
      go false b true (on d'' j'' rest'') f g = g d'' j'' rest'' (fits_on d'' j'' rest'' f)
      go false b false r f g = tt

  listed_fits : (p : Parsed) → AllFit p → AllFit (listed p)
  listed_fits (refused x k) f = tt
  listed_fits (accepted j) f = go (any (λ (q : File). same q.path j.start) j.files && any (λ (m : Module). same m.name j.top) j.modules)
    where
      go : (b : Bool) → AllFit (cond b (accepted j) (refused 7 0))
      go true = f
      go false = tt

none_yet : (t : Bytes) → body_size [] + length t ≤ length t
unfolding body_size
none_yet t = omega arith

pub accepted_bodies : (t : Bytes) (j : Job) → parse t ≡ accepted j → (body_size j.files ≤ length t) × (length t ≤ 65536)
unfolding parse
accepted_bodies t j h = go (leb (length t) 65536) refl (all is_ascii t) h
  where
    go : (a : Bool) → leb (length t) 65536 ≡ a → (b : Bool) → cond a (cond b (listed (lines (length t + 1) 0 due_top no_job t)) (refused 3 0)) (refused 2 0) ≡ accepted j → (body_size j.files ≤ length t) × (length t ≤ 65536)
    go false q b e = absurd (let z : ◌≡◌ {A = ℕ} 0 1 = cc in omega arith)
    go true q false e = absurd (let z : ◌≡◌ {A = ℕ} 0 1 = cc in omega arith)
    go true q true e =
        let w : AllFit (length t) (accepted j) = rw e at (listed_fits (length t) (lines (length t + 1) 0 due_top no_job t) (lines_fit (length t) (length t + 1) 0 due_top no_job t (none_yet t))) in
        (w, leb-true (length t) 65536 q)
