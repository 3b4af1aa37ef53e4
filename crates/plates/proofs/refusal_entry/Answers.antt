-- `plates::refusal_entry` meets its contract: each case has its entry.
use Rattle.plates.proofs.RefusalTable.{tells}
use Rattle.plates.proofs.refusal_entry.Goals as goal

pub returns-in-Length : goal.returns-in-Length
returns-in-Length c = search tells

pub returns-in-TooManyRows : goal.returns-in-TooManyRows
returns-in-TooManyRows c = search tells

pub returns-in-RowBeyond : goal.returns-in-RowBeyond
returns-in-RowBeyond c = search tells

pub returns-in-TooWide : goal.returns-in-TooWide
returns-in-TooWide c = search tells

pub returns-in-NotPrepared : goal.returns-in-NotPrepared
returns-in-NotPrepared c = search tells

pub returns-in-SampleCount : goal.returns-in-SampleCount
returns-in-SampleCount c = search tells

pub returns-in-SampleRange : goal.returns-in-SampleRange
returns-in-SampleRange c = search tells

pub returns-in-MetricRoom : goal.returns-in-MetricRoom
returns-in-MetricRoom c = search tells

pub returns-in-DecisionRoom : goal.returns-in-DecisionRoom
returns-in-DecisionRoom c = search tells

pub returns-in-SheetLine : goal.returns-in-SheetLine
returns-in-SheetLine c = search tells

pub returns-in-LineRoom : goal.returns-in-LineRoom
returns-in-LineRoom c = search tells

pub returns-in-NoSuchBranch : goal.returns-in-NoSuchBranch
returns-in-NoSuchBranch c = search tells

pub returns-in-InformationBeyond : goal.returns-in-InformationBeyond
returns-in-InformationBeyond c = search tells

pub returns-in-NoCodeword : goal.returns-in-NoCodeword
returns-in-NoCodeword c = search tells

pub returns-in-InputTooLong : goal.returns-in-InputTooLong
returns-in-InputTooLong c = search tells

pub returns-in-AlistFault : goal.returns-in-AlistFault
returns-in-AlistFault c = search tells

pub returns-in-FirstField : goal.returns-in-FirstField
returns-in-FirstField c = search tells

pub returns-in-FieldCount : goal.returns-in-FieldCount
returns-in-FieldCount c = search tells

pub returns-in-FieldValue : goal.returns-in-FieldValue
returns-in-FieldValue c = search tells

pub returns-in-RowField : goal.returns-in-RowField
returns-in-RowField c = search tells

pub returns-in-PositionBeyond : goal.returns-in-PositionBeyond
returns-in-PositionBeyond c = search tells

pub returns-in-WholeSpace : goal.returns-in-WholeSpace
returns-in-WholeSpace c = search tells

pub returns-in-MaskBeyond : goal.returns-in-MaskBeyond
returns-in-MaskBeyond c = search tells

pub returns-in-BadSetting : goal.returns-in-BadSetting
returns-in-BadSetting c = search tells

pub returns-in-NotANumber : goal.returns-in-NotANumber
returns-in-NotANumber c = search tells

pub returns-in-BranchFault : goal.returns-in-BranchFault
returns-in-BranchFault c = search tells

pub returns-in-BranchTwice : goal.returns-in-BranchTwice
returns-in-BranchTwice c = search tells

pub returns-in-TooManyLines : goal.returns-in-TooManyLines
returns-in-TooManyLines c = search tells
