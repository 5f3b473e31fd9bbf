-- Laws: a text is cut into its lines, and its force lines are found, line by line.
-- Assumes nothing.
use Rattle.std.specs.Prelude.{◌≡◌, Bool, true, false, cond, not, ◌&&◌, eqb}
use Rattle.std.proofs.Math.Path.{refl, ap}
use Rattle.std.proofs.Common.{sym, ◌∙◌, ne_eqb}
use mathlib.Core.List.{List, [], ◌∷◌, ◌++◌, map, append_assoc, append-nil}
use Rattle.std.proofs.lemmas.Bool.{not-true}
use Rattle.text.specs.Ascii.{Bytes, ascii, byte}
use Rattle.text.specs.Classes.{is_alnum}
use Rattle.text.specs.Compare.{same}
use Rattle.text.specs.Scan.{all, split_at}
use Rattle.text.specs.Sames.{both, no_true}
use Rattle.out.specs.Bytewise.{flat, mangled_byte, mangle}
use Rattle.out.specs.Fill.{pick, arg, adds, turns, filled, fill}
use Rattle.out.specs.Items.{each}
use Rattle.design.specs.Lists.{those}
use Rattle.texts.specs.Laws.{all_append}
use Rattle.model.specs.Records.{Domain}
use Rattle.texts.specs.Domains.{Check, force, release, check_line, always_block, initial_block}
use Rattle.texts.specs.ForceLines.{lines_of, is_force, force_lines, force_line, on_one_line}
use Rattle.texts.specs.Cuts.{written, line, check_on_one_line}

-- ---- one line and what is behind it

pub written_behind : (ps : List Bytes) (t u : Bytes) → written ps t ++ u ≡ written ps (t ++ u)
written_behind [] t u = refl
written_behind (p ∷ ps) t u = rw (append_assoc p (written ps t) u, written_behind ps t u)

written_one : (ps : List Bytes) → all on_one_line ps ≡ true → on_one_line (line ps) ≡ true
unfolding all
written_one [] h = refl
written_one (p ∷ ps) h =
    let b = both (on_one_line p) (all on_one_line ps) h in
    all_append (λ x. not (eqb x (byte "\n"))) p (line ps) b.0 (written_one ps b.1)

cut : (l t : Bytes) → on_one_line l ≡ true → lines_of (l ++ byte "\n" ∷ t) ≡ l ∷ lines_of t
unfolding all split_at
cut [] t h = refl
cut (x ∷ l) t h =
    let b = both (not (eqb x (byte "\n"))) (on_one_line l) h in
    rw (not-true (eqb x (byte "\n")) b.0, cut l t b.1)

cut_line : (ps : List Bytes) (t : Bytes) → all on_one_line ps ≡ true → lines_of (written ps (byte "\n" ∷ t)) ≡ line ps ∷ lines_of t
cut_line ps t h = rw (← written_behind ps [] (byte "\n" ∷ t)) (cut (line ps) t (written_one ps h))

pub skip : (ps : List Bytes) (t : Bytes) → all on_one_line ps ≡ true → is_force (line ps) ≡ false → force_lines (written ps (byte "\n" ∷ t)) ≡ force_lines t
unfolding those
skip ps t h f = rw (cut_line ps t h, f)

pub keep : (ps : List Bytes) (t : Bytes) → all on_one_line ps ≡ true → is_force (line ps) ≡ true → force_lines (written ps (byte "\n" ∷ t)) ≡ line ps ∷ force_lines t
unfolding those
keep ps t h f = rw (cut_line ps t h, f)

-- ---- the lines that a domain's blocks are made of

module _ {A : Type 0} (f : A → Bytes) where
  -- texts without a force line
  pub each_skips : (ok : A → Bool) → ((x : A) (u : Bytes) → ok x ≡ true → force_lines (f x ++ u) ≡ force_lines u) → (xs : List A) (t : Bytes) → all ok xs ≡ true → force_lines (each f xs ++ t) ≡ force_lines t
  unfolding each all
  each_skips ok h [] t a = refl
  each_skips ok h (x ∷ xs) t a =
      let b = both (ok x) (all ok xs) a in
      rw (append_assoc (f x) (each f xs) t) (h x (each f xs ++ t) b.0 ∙ each_skips ok h xs t b.1)

  -- one force line each
  pub each_keeps : (ok : A → Bool) (l : A → Bytes) → ((x : A) (u : Bytes) → ok x ≡ true → force_lines (f x ++ u) ≡ l x ∷ force_lines u) → (xs : List A) (t : Bytes) → all ok xs ≡ true → force_lines (each f xs ++ t) ≡ map l xs ++ force_lines t
  unfolding each all
  each_keeps ok l h [] t a = refl
  each_keeps ok l h (x ∷ xs) t a =
      let b = both (ok x) (all ok xs) a in
      rw (append_assoc (f x) (each f xs) t) (h x (each f xs ++ t) b.0 ∙ ap (λ (r : List Bytes). l x ∷ r) (each_keeps ok l h xs t b.1))

release_skipped : (p u : Bytes) → on_one_line p ≡ true → force_lines (release p ++ u) ≡ force_lines u
unfolding fill filled adds turns arg pick all same
release_skipped p u h = rw (append_assoc p (ascii ";\n") u) (skip (ascii "      release " ∷ p ∷ ascii ";" ∷ []) u (rw h) refl)

force_kept : (p u : Bytes) → on_one_line p ≡ true → force_lines (force p ++ u) ≡ force_line p ∷ force_lines u
unfolding fill filled adds turns arg pick all same
force_kept p u h = rw (append_assoc p (ascii " = 'x;\n") u) (keep (ascii "      force " ∷ p ∷ ascii " = 'x;" ∷ []) u (rw h) refl)

-- the pieces of a check's line
abbrev check_pieces : Bytes → Check → List Bytes
check_pieces d c =
    ascii "      if (" ∷ c.signal ∷ ascii " !== " ∷ c.active ∷ ascii ") $display(\"[UPF] Warning: Time: %0t, Isolation control '" ∷ c.signal
    ∷ ascii "' (%b) is not enabled when power domain '" ∷ d ∷ ascii "' is switched OFF (strategy " ∷ c.strategy ∷ ascii ")\", $time, " ∷ c.signal ∷ ascii ");" ∷ []

check_written : (d : Domain) (c : Check) → check_line d c ≡ written (check_pieces d.name c) (ascii "\n")
unfolding fill filled adds turns arg pick
check_written d c = refl

check_skipped : (d : Domain) (c : Check) (u : Bytes) → on_one_line d.name ≡ true → check_on_one_line c ≡ true → force_lines (check_line d c ++ u) ≡ force_lines u
unfolding all same
check_skipped d c u n h =
    let a = both (on_one_line c.signal) (on_one_line c.active && on_one_line c.strategy) h in
    let b = both (on_one_line c.active) (on_one_line c.strategy) a.1 in
    rw (check_written d c, written_behind (check_pieces d.name c) (ascii "\n") u)
    (skip (check_pieces d.name c) u (rw (a.0, b.0, n, b.1)) refl)

-- ---- the blocks

-- `mangle` leaves letters, digits and `_`
pub mangled_one : (n : Bytes) → on_one_line (mangle n) ≡ true
unfolding all flat mangled_byte
mangled_one [] = refl
mangled_one (b ∷ n) = go (is_alnum b) refl (mangled_one n)
  where
    go : (a : Bool) → is_alnum b ≡ a → on_one_line (mangle n) ≡ true → not (eqb (cond a b (byte "_")) (byte "\n")) && on_one_line (mangle n) ≡ true
    go true e h = rw (ne_eqb b (byte "\n") (λ z. no_true (ap is_alnum (sym z) ∙ e)), h)
    go false e h = h

module _ (d : Domain) (paths : List Bytes) (plain : on_one_line d.name ≡ true) (short : all on_one_line paths ≡ true) where
  pub initial_forces : force_lines (initial_block d paths) ≡ map force_line paths
  unfolding initial_block fill filled adds turns arg pick all same those split_at
  initial_forces =
      skip (ascii "  initial begin" ∷ []) (written (ascii "    if (upf_pd__" ∷ mangle d.name ∷ ascii " !== 1'b1) begin" ∷ []) (byte "\n" ∷ (each force paths ++ ascii "    end\n  end\n"))) refl refl
      ∙ skip (ascii "    if (upf_pd__" ∷ mangle d.name ∷ ascii " !== 1'b1) begin" ∷ []) (each force paths ++ ascii "    end\n  end\n") (rw (mangled_one d.name)) refl
      ∙ each_keeps force on_one_line force_line force_kept paths (ascii "    end\n  end\n") short
      ∙ append-nil (map force_line paths)

  module _ (cs : List Check) (checked : all check_on_one_line cs ≡ true) where
    -- the block from its release lines on, from its checks on, and from its last lines on
    abbrev from_last : Bytes
    from_last = written (ascii "      if ($time != 0) $display(\"[UPF] Time: %0t, Power domain '" ∷ d.name ∷ ascii "' is powered down\", $time);" ∷ []) (ascii "\n    end\n  end\n")

    abbrev from_checks : Bytes
    from_checks = each (check_line d) cs ++ (ascii "      end\n" ++ (each force paths ++ from_last))

    abbrev from_releases : Bytes
    from_releases =
        each release paths
        ++ written (ascii "      $display(\"[UPF] Time: %0t, Power domain '" ∷ d.name ∷ ascii "' is powered up\", $time);" ∷ []) (ascii "\n    end else begin\n      if ($time != 0) begin\n" ++ from_checks)

    always_written : always_block d cs paths ≡ written (ascii "  always @(upf_pd__" ∷ mangle d.name ∷ ascii ") begin\n    if (upf_pd__" ∷ mangle d.name ∷ ascii " === 1'b1) begin" ∷ []) (byte "\n" ∷ from_releases)
    unfolding always_block fill filled adds turns arg pick
    always_written = refl

    last_forces : force_lines from_last ≡ []
    unfolding all same those split_at
    last_forces =
        skip (ascii "      if ($time != 0) $display(\"[UPF] Time: %0t, Power domain '" ∷ d.name ∷ ascii "' is powered down\", $time);" ∷ []) (ascii "    end\n  end\n") (rw plain) refl

    checks_forces : force_lines from_checks ≡ map force_line paths
    unfolding all same
    checks_forces =
        each_skips (check_line d) check_on_one_line (λ c u h. check_skipped d c u plain h) cs (ascii "      end\n" ++ (each force paths ++ from_last)) checked
        ∙ skip (ascii "      end" ∷ []) (each force paths ++ from_last) refl refl
        ∙ each_keeps force on_one_line force_line force_kept paths from_last short
        ∙ rw last_forces (append-nil (map force_line paths))

    releases_forces : force_lines from_releases ≡ map force_line paths
    unfolding all same
    releases_forces =
        each_skips release on_one_line release_skipped paths _ short
        ∙ skip (ascii "      $display(\"[UPF] Time: %0t, Power domain '" ∷ d.name ∷ ascii "' is powered up\", $time);" ∷ []) (ascii "    end else begin\n      if ($time != 0) begin\n" ++ from_checks) (rw plain) refl
        ∙ skip (ascii "    end else begin" ∷ []) (ascii "      if ($time != 0) begin\n" ++ from_checks) refl refl
        ∙ skip (ascii "      if ($time != 0) begin" ∷ []) from_checks refl refl
        ∙ checks_forces

    pub always_forces : force_lines (always_block d cs paths) ≡ map force_line paths
    unfolding all same
    always_forces =
        rw always_written
        (skip (ascii "  always @(upf_pd__" ∷ mangle d.name ∷ ascii ") begin" ∷ []) (written (ascii "    if (upf_pd__" ∷ mangle d.name ∷ ascii " === 1'b1) begin" ∷ []) (byte "\n" ∷ from_releases)) (rw (mangled_one d.name)) refl
        ∙ skip (ascii "    if (upf_pd__" ∷ mangle d.name ∷ ascii " === 1'b1) begin" ∷ []) from_releases (rw (mangled_one d.name)) refl
        ∙ releases_forces)
