mod Amounts
mod Flat
mod LineWords
mod LinesAgain
