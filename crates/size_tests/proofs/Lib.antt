mod CountLaws
mod HeadTestLaws
mod TestLaws
