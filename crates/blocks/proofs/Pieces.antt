-- The blocks in the pieces in which they are written. Assumes nothing.
use mathlib.Core.Path.{◌≡◌}
use mathlib.Core.List.{List}
use Rattle.text.specs.Ascii.{Bytes, ascii}
use Rattle.out.specs.Emit.{Out, emit, ◌⊕◌, emit-⊕}
use Rattle.out.specs.Fill.{turns, arg, pick, writes, format1, format2, emit_fill}
use Rattle.out.specs.Items.{each}
use Rattle.texts.specs.Domains.{force, release}
use Rattle.blocks.specs.Blocks.{up_text, down_text, initial_text}

up_cut : (o : Out) (name rs : Bytes) → emit o (format1 "  always @(upf_pd__{a}) begin\n    if (upf_pd__{a} === 1'b1) begin\n" name ⊕ rs ⊕ format1 "      $display(\"[UPF] Time: %0t, Power domain '{0}' is powered up\", $time);\n    end else begin\n      if ($time != 0) begin\n" name)
    ≡ emit o (format2 "  always @(upf_pd__{a}) begin\n    if (upf_pd__{a} === 1'b1) begin\n{1}      $display(\"[UPF] Time: %0t, Power domain '{0}' is powered up\", $time);\n    end else begin\n      if ($time != 0) begin\n" name rs)
unfolding emit writes turns arg pick
up_cut o name rs = simp (emit-⊕, emit_fill)

pub up_pieces : (o : Out) (name : Bytes) (paths : List Bytes) → emit o (format1 "  always @(upf_pd__{a}) begin\n    if (upf_pd__{a} === 1'b1) begin\n" name ⊕ each release paths ⊕ format1 "      $display(\"[UPF] Time: %0t, Power domain '{0}' is powered up\", $time);\n    end else begin\n      if ($time != 0) begin\n" name)
    ≡ emit o (up_text name paths)
unfolding up_text
up_pieces o name paths = up_cut o name (each release paths)

down_cut : (o : Out) (name fs : Bytes) → emit o (ascii "      end\n" ⊕ fs ⊕ format1 "      if ($time != 0) $display(\"[UPF] Time: %0t, Power domain '{0}' is powered down\", $time);\n    end\n  end\n" name)
    ≡ emit o (format2 "      end\n{1}      if ($time != 0) $display(\"[UPF] Time: %0t, Power domain '{0}' is powered down\", $time);\n    end\n  end\n" name fs)
unfolding emit writes turns arg pick
down_cut o name fs = simp (emit-⊕, emit_fill)

pub down_pieces : (o : Out) (name : Bytes) (paths : List Bytes) → emit o (ascii "      end\n" ⊕ each force paths ⊕ format1 "      if ($time != 0) $display(\"[UPF] Time: %0t, Power domain '{0}' is powered down\", $time);\n    end\n  end\n" name)
    ≡ emit o (down_text name paths)
unfolding down_text
down_pieces o name paths = down_cut o name (each force paths)

initial_cut : (o : Out) (name fs : Bytes) → emit o (format1 "  initial begin\n    if (upf_pd__{a} !== 1'b1) begin\n" name ⊕ fs ⊕ ascii "    end\n  end\n") ≡ emit o (format2 "  initial begin\n    if (upf_pd__{a} !== 1'b1) begin\n{1}    end\n  end\n" name fs)
unfolding emit writes turns arg pick
initial_cut o name fs = simp (emit-⊕, emit_fill)

pub initial_pieces : (o : Out) (name : Bytes) (paths : List Bytes) → emit o (format1 "  initial begin\n    if (upf_pd__{a} !== 1'b1) begin\n" name ⊕ each force paths ⊕ ascii "    end\n  end\n") ≡ emit o (initial_text name paths)
unfolding initial_text
initial_pieces o name paths = initial_cut o name (each force paths)
