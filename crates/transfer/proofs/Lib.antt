pub mod KindOrder
pub mod LineCuts
pub mod OneFile
pub mod OneLine
pub mod PageOrder
pub mod RowOrder
pub mod RowsRead
pub mod WrittenLines
