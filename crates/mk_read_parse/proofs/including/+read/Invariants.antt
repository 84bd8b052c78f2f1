use Rattle.std.proofs.Common.{◌≡◌, ◌+◌, ◌*◌, drop, map, string_bytes}
use Rattle.mk_lines.specs.Views.{line_view}
use Rattle.mk_read.specs.Files.{IfFits, Keeps}
use Rattle.mk_read.specs.Following.{below}
use Rattle.mk_read.specs.Reading.{files, with_lines}
use Rattle.mk_read_parse.specs.Views.{place_at, read_below, text_of}
use Rattle.mk_read_parse.proofs.Histories.{SoFar}
use Rattle.mk_read_parse.proofs.including.+read.Given as goal

-- the levels left, and within a level the calls in their order
abbrev pub decreases-read_text : goal.decreases-read_text
decreases-read_text g l = 8 * l.source.now.levels + 7

abbrev pub decreases-read_lines : goal.decreases-read_lines
decreases-read_lines g l = 8 * l.source.now.levels + 6

abbrev pub decreases-read_line : goal.decreases-read_line
decreases-read_line g l = 8 * l.source.now.levels + 5

abbrev pub decreases-read_kind : goal.decreases-read_kind
decreases-read_kind g l = 8 * l.source.now.levels + 4

abbrev pub decreases-read_include : goal.decreases-read_include
decreases-read_include g l = 8 * l.source.now.levels + 3

abbrev pub decreases-read_files : goal.decreases-read_files
decreases-read_files g l = 8 * l.include.now.levels + 10

abbrev pub decreases-read_file : goal.decreases-read_file
decreases-read_file g l = 8 * l.include.now.levels + 9

abbrev pub decreases-read_found : goal.decreases-read_found
decreases-read_found g l = 8 * l.include.now.levels + 8

-- the maps that fit fitted before, no read failed, and what the remaining items do
abbrev pub invariant-read_lines-loop-line : goal.invariant-read_lines-loop-line
invariant-read_lines-loop-line g l = Keeps (g.F.Files.fits l.fn.files) (g.F.Files.fits l.files) × (g.F.Files.failed l.files ≡ g.F.Files.failed l.fn.files)
    × IfFits (g.F.Files.fits l.files) (λ told. SoFar told
    (λ reader. with_lines reader (below l.source.levels reader) (text_of l.source) (map line_view l.lines)
    l.fn.state) (λ reader. with_lines reader (below l.source.levels reader) (text_of l.source)
    (map line_view (drop l.line-index l.lines)) l.state) l.fn.state l.state)

abbrev pub invariant-read_files-loop-name : goal.invariant-read_files-loop-name
invariant-read_files-loop-name g l = Keeps (g.F.Files.fits l.fn.files) (g.F.Files.fits l.files) × (g.F.Files.failed l.files ≡ g.F.Files.failed l.fn.files)
    × IfFits (g.F.Files.fits l.files) (λ told. SoFar told
    (λ reader. files reader (read_below l.include.levels reader) (place_at l.include.location.now) l.include.optional
    (map string_bytes l.names) l.fn.state) (λ reader. files reader (read_below l.include.levels reader)
    (place_at l.include.location.now) l.include.optional (map string_bytes (drop l.name-index l.names)) l.state) l.fn.state
    l.state)
